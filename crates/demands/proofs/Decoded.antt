-- What a call for C hands over says all of its answer. A code other than 0 has the refusal's number and place, and 0 says that the pointers have what was
-- given; a subterm has one node at least, so that its count tells it from the empty part; and each choice has a number of its own.
use mathlib.Core.Path.{◌≡◌, refl, sym as inv, ap, subst}
use mathlib.Core.Logic.{◌↔◌, ◌⊎◌, inl, inr}
use mathlib.Core.List.{List}
use mathlib.Core.Option.{Option, none, some as just}
use Prim.Native.Nat.{ℕ, ◌+◌, ◌≤◌, ◌<◌}
use native.Mathlib.Omega.{arith}
use native.Mathlib.Decide.{dec_lt}
use lib.Dec.{lit≤}
use lib.ListN.{length, drop, length-take, length-drop}
use borrow.Author.Tests.{ne_eqb}
use Rattle.std.specs.Prelude.{Result, Ok, Err}
use Rattle.theory.specs.Tree.{Pattern, var, sym, encₚ}
use Rattle.meaning.specs.Refusals.{Refusal as Given, refusal, place_of, first}
use Rattle.meaning.specs.Calls.{Answer, refused, gives, refused_as, aye, degrees, is_table_lem, symbol_degree_lem, heading_degree, matched, written, arity_back, pair_back, Part, part, subterm_rows, subterm, Nearer, the_first, the_second_lem, neither, nearer}
use Rattle.meaning.specs.Saved.{widened_count}
use Rattle.meaning.proofs.First.{unless_refused}
use Rattle.meaning.proofs.Parts.{subterms}
use Rattle.marc.specs.Known.{known_in}
use Rattle.marc.specs.Heading.{heading_rows, headed}
use Rattle.marc.proofs.Places.{heading_place}
use Rattle.exchange.specs.Said.{told as toldFault, said as saidHeading}
use Rattle.exchange.specs.declared.Fault.{Fault}
use Rattle.refusal.specs.Told.{told, refused_by}
use Rattle.refusal.specs.declared.Degrees.{Degrees as Found}
use Rattle.refusal.specs.declared.Refusal.{Refusal}
use Rattle.writer.specs.Said.{said}
use Rattle.refusal.specs.Outcomes.{said_match}
use Rattle.tables.specs.Tables.{said_as}
use Rattle.table.specs.Read.{pair_in}
use Rattle.table.specs.declared.read.Pair.{Pair as Record}
use Rattle.records.specs.Records.{listed}
use Rattle.headings.specs.Terms.{Nodes, IsPart, Subterm, IsChosen, Nearer as NearerTo, accepted}
use Rattle.headings.proofs.Lists.{no_subterm}
use Rattle.capi.specs.Answers.{code_of, coded}
use Rattle.capi.specs.Terms.{count_of, chosen}
use Rattle.capi.specs.Marc.{highest_place, wide_code_lem, wide_coded}
use Rattle.capi.proofs.OneCapi.{Tells, code_tells, wide_code_tells}
use Rattle.demands.specs.ForC.{most_strings, answer_of, subterm_of, nearer_of}
use Rattle.demands.proofs.Possible.{some_calls, kept}

-- ---- codes

-- a code gives the answer back, where what the pointers have is what was given
abbrev pub Decodes : {A : Type 0} → Answer A → Type 0
Decodes {A} answer = (left : Answer A → A) → ((a : A) → left (gives a) ≡ a) → answer_of (coded answer) (left answer) ≡ answer

gives_decodes : {A : Type 0} (a : A) → Decodes (gives a)
gives_decodes a left e = ap gives (e a)

tells_decodes : {A : Type 0} (code : ℕ) (g : Given) (a : A) → Tells code g → answer_of code a ≡ refused_as g
tells_decodes code (refusal n place) a t = rw (ne_eqb code 0 (λ z. omega (arith, t.some, z)), t.low, t.high)

refused_decodes : {A : Type 0} (why : Refusal) → Decodes {A = A} (refused_by why)
refused_decodes {A} why left e = go (told why) (code_tells why)
  where
    go : (g : Given) → Tells (code_of g) g → answer_of (coded {A = A} (refused_as g)) (left (refused_as g)) ≡ refused_as g
    go (refusal n place) t = tells_decodes (code_of (refusal n place)) (refusal n place) (left (refused n place)) t

results_decode : {A B : Type 0} (meant : A → B) (r : Result A Refusal) → Decodes (said_as meant r)
results_decode meant (Ok a) = gives_decodes (meant a)
results_decode meant (Err why) = refused_decodes why

-- LAW: it does of each call's answer, since every answer is one that a case says
module _ (table : List ℕ) where
  pub table_decodes : Decodes (is_table_lem table)
  table_decodes = subst Decodes (kept.is_table_lem-is table) (results_decode (λ u. aye) (some_calls.is_table_lem table))

  pub symbols_decode : (a b : ℕ) → Decodes (symbol_degree_lem table a b)
  symbols_decode a b = subst Decodes (kept.symbol_degree_lem-is table a b) (results_decode (λ n. n) (some_calls.symbol_degree_lem table a b))

  pub headings_decode : (one two : List ℕ) → Decodes (heading_degree table one two)
  headings_decode one two = subst Decodes (kept.heading_degree_lem table one two) (results_decode (λ n. n) (some_calls.heading_degree table one two))

  pub match_decodes : (pattern heading : List ℕ) (cut : ℕ) (spans sets : List ℕ) → Decodes (matched table pattern heading cut spans sets)
  match_decodes pattern heading cut spans sets =
      subst Decodes (kept.match table pattern heading cut spans sets).answers (go (some_calls.match table pattern heading cut spans sets).outcome)
    where
      go : (r : Result Found Refusal) → Decodes (said_match r)
      go (Ok d) = gives_decodes (degrees d.lowest d.highest)
      go (Err why) = refused_decodes why

  pub arity_decodes : (symbol : ℕ) → Decodes (arity_back table symbol)
  arity_decodes symbol = subst Decodes (kept.arity_of_lem-is table symbol) (results_decode (λ n. n) (some_calls.arity_of_lem table symbol))

  pub pair_decodes : (index : ℕ) → Decodes (pair_back table index)
  pair_decodes index = subst Decodes (kept.pair_of_lem table index) (results_decode pair_in (some_calls.pair_of table index))

writings_decode : (r : Result ℕ Refusal) → Decodes (said r)
writings_decode (Ok n) = gives_decodes n
writings_decode (Err why) = refused_decodes why

pub writer_decodes : (arities : List ℕ) (records : List Record) (output : List ℕ) → Decodes (written arities (listed records) output)
writer_decodes arities records output =
    subst Decodes (kept.write_records_lem-is arities records output).answers (writings_decode (some_calls.write_records_lem arities records output).writing)

pub widen_decodes : (words output : List ℕ) → Decodes (widened_count words output)
widen_decodes words output = subst Decodes (kept.widen words output).answers (writings_decode (some_calls.widen words output).writing)

-- LAW: .. and of an exchange record's, by a code of 64 bits, where 48 tell the place; they do with a list that can be lent
module _ (bytes text ends numbers : List ℕ) (heading absent : ℕ) (nodes : List ℕ) (few : length (known_in text ends numbers) ≤ most_strings) where
  pub place_told : (n place : ℕ) → headed bytes (known_in text ends numbers) heading absent nodes ≡ refused n place → place ≤ highest_place
  unfolding headed
  place_told n place e =
      heading_place bytes (known_in text ends numbers) heading absent nodes highest_place (omega (arith, few)) (lit≤ tt) n place
      (unless_refused (first (heading_rows bytes (known_in text ends numbers) heading absent nodes)) aye n place e)

  pub record_decodes : answer_of (wide_coded (headed bytes (known_in text ends numbers) heading absent nodes)) aye ≡ headed bytes (known_in text ends numbers) heading absent nodes
  record_decodes =
      let m = (kept.marc_heading_lem bytes text ends numbers heading absent nodes).answers in
      subst (λ a. answer_of (wide_coded a) aye ≡ a) m (go (some_calls.marc_heading bytes text ends numbers heading absent nodes).headed m)
    where
      go : (h : Result (Unit {0}) Fault) → saidHeading h ≡ headed bytes (known_in text ends numbers) heading absent nodes → answer_of (wide_coded (saidHeading h)) aye ≡ saidHeading h
      go (Ok u) m = refl
      go (Err why) m = of (toldFault why) m (wide_code_tells why)
        where
          of : (g : Given) → refused_as g ≡ headed bytes (known_in text ends numbers) heading absent nodes → (place_of g ≤ highest_place → Tells (wide_code_lem g) g)
              → answer_of (wide_coded (refused_as g)) aye ≡ refused_as g
          of (refusal n place) m tells = tells_decodes (wide_code_lem (refusal n place)) (refusal n place) aye (tells (place_told n place (inv m)))

-- ---- a subterm by its number of nodes

-- LAW: where something is handed back at all, it has nodes, begins at the index and ends within the list
abbrev pub Shown : List ℕ → ℕ → Part → Type 0
Shown term i p = (p ≡ part 0 0) ⊎ ((n : ℕ) × (0 < n) × (i + n ≤ length term) × (p ≡ part i n))

some_nodes : (q : Pattern) → 0 < length (encₚ q)
some_nodes (var v) = omega arith
some_nodes (sym f ps) = omega arith

pub shown : (table term : List ℕ) (i : ℕ) → Shown term i (subterm table term i)
shown table term i = go (first (subterm_rows table term)) refl (dec_lt i (length term))
  where
    go : (o : Option Given) → first (subterm_rows table term) ≡ o → Dec (i < length term) → Shown term i (subterm table term i)
    go (just r) e d = inl (no_subterm table term (ap accepted e) i)
    go none e (yes l) =
        let s = subterms.found table term i e l in
        let n = length (encₚ s.q) in
        inr (n, some_nodes s.q, omega (arith, ap length s.holds_it, length-take n (drop i term), length-drop i term), s.handed_back)
    go none e (no n) = inl (subterms.outside_part table term i (omega arith))

-- LAW: so its count says which part it is
pub subterm_decodes : (table : List ℕ) (term : Nodes) (i : ℕ) → Subterm table term i (subterm_of term i (count_of (subterm table term.now i)))
subterm_decodes table term i = go (subterm table term.now i) (shown table term.now i)
  where
    go : (p : Part) → Shown term.now i p → IsPart term (subterm_of term i (count_of p)) p
    go p (inl e) = rw e (record { holds = refl; block = refl; offset = refl })
    go p (inr (n, l, m, e)) = rw (e, ne_eqb n 0 (λ z. omega arith)) (record { holds = refl; block = refl; offset = refl })

-- LAW: and the list has so many nodes there
pub subterm_inside : (table term : List ℕ) (i : ℕ) → 0 < count_of (subterm table term i) → i + count_of (subterm table term i) ≤ length term
subterm_inside table term i = go (subterm table term i) (shown table term i)
  where
    go : (p : Part) → Shown term i p → 0 < count_of p → i + count_of p ≤ length term
    go p (inl e) l = absurd (omega (arith, l, ap count_of e))
    go p (inr (n, k, m, e)) l = omega (arith, m, ap count_of e)

-- ---- the nearer by its number

-- LAW: a candidate's number is 0, 1 or 2
pub chosen_few : (which : Nearer) → chosen which ≤ 2
chosen_few the_first = omega arith
chosen_few the_second_lem = omega arith
chosen_few neither = omega arith

-- LAW: .. and 0 where neither is chosen
pub none-chosen : (which : Nearer) → chosen which ≡ 0 ↔ (which ≡ neither)
none-chosen the_first = (λ e. absurd (omega arith), λ e. ap chosen e)
none-chosen the_second_lem = (λ e. absurd (omega arith), λ e. ap chosen e)
none-chosen neither = (λ e. refl, λ e. refl)

-- LAW
pub nearer_decodes : (table heading : List ℕ) (one two : Nodes) → NearerTo table heading one two (nearer_of one two (chosen (nearer table heading one.now two.now)))
nearer_decodes table heading one two = go (nearer table heading one.now two.now)
  where
    go : (which : Nearer) → IsChosen one two (nearer_of one two (chosen which)) which
    go the_first = refl
    go the_second_lem = refl
    go neither = record { holds = refl; block = refl; offset = refl }
