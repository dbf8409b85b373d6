-- What the readings of lists say to a call. On a sound table its rows for the table are silent, so the first of its other rows that holds
-- refuses it; and a row for a list holds where the list's reading has a fault.
use mathlib.Core.Path.{◌≡◌, refl, sym, ap, subst, ◌∙◌}
use mathlib.Core.List.{List, [], ◌∷◌, ◌++◌}
use mathlib.Core.Bool.{Bool, true, false, ◌&&◌, false≢true}
use mathlib.Core.Option.{Option as Maybe, none, some as just}
use Prim.Native.Nat.{ℕ, ◌≤◌, ◌<◌}
use lib.ListN.{length}
use borrow.Author.Tests.{lt-ltb, le-ltb}
use native.Mathlib.Omega.{arith}
use Rattle.std.specs.Prelude.{Option, Some, None, Result, Ok, Err, is_some, is_ok, IfOk, MatchResult, IsErrAnd}
use Rattle.std.specs.Result.{result_ok}
use Rattle.refusal.specs.declared.Refusal.{Refusal}
use Rattle.refusal.specs.Told.{told}
use Rattle.sound.specs.Found.{found}
use Rattle.theory.specs.Table.{Table}
use Rattle.theory.specs.Read.{Walk, walk, Reading, whole, faulty, reading}
use Rattle.meaning.specs.File.{table_in}
use Rattle.meaning.specs.Refusals.{Refusal as Given, refusal, Row, row, first, fault_of, row6, row7, table_rows, SoundFile}
use Rattle.meaning.specs.Calls.{refused, gives, degree_rows, heading_degree, part, part_to, subterm_rows, subterm, the_first, the_second_lem, neither, nearer_rows, nearer}
use Rattle.meaning.proofs.First.{first-append, append-none, all_silent}
use Rattle.meaning.proofs.Trees.{whole6, whole7}
use Rattle.meaning.proofs.Compose.{first_stays}
use Rattle.terms.specs.Readings.{reading_in}
use Rattle.terms.specs.Degrees.{Heading, degree_of}
use Rattle.terms.proofs.Readings.{row6_is, row7_is}
use Rattle.headings.specs.Terms.{is_whole, accepted}

-- ---- accepted or not

accepted-none : (o : Maybe Given) → accepted o ≡ true → o ≡ none
accepted-none none e = refl
accepted-none (just g) e = absurd (false≢true e)

refused_some : (o : Maybe Given) → accepted o ≡ false → (g : Given) × (o ≡ just g)
refused_some none e = absurd (false≢true (sym e))
refused_some (just g) e = (g, refl)

-- where nothing is kept of what the check found, the table is refused
refusal_of : {A : Type 0} (table : List ℕ) (r : Result A Refusal) → result_ok r ≡ None → found r ≡ first (table_rows table) → (g : Given) × (first (table_rows table) ≡ just g)
refusal_of {A = A} table (Ok a) e f = absurd (let z : ◌≡◌ {A = Option A} (Some a) None = e in let w : ◌≡◌ {A = ℕ} 0 1 = cc in omega arith)
refusal_of table (Err why) e f = (told why, sym f)

-- what the first rows refuse is not accepted
refused_early : (rows more : List Row) (g : Given) → first rows ≡ just g → false ≡ accepted (first (rows ++ more))
refused_early rows more (refusal n place) e = rw (first_stays rows more n place e)

-- rows for lists accept what is whole
one_list : (n : ℕ) (r : Reading) → accepted (first (row n (fault_of r) ∷ [])) ≡ is_whole r
one_list n whole = refl
one_list n (faulty place) = refl

three_lists : (n : ℕ) (p q r : Reading) → accepted (first (row n (fault_of p) ∷ row n (fault_of q) ∷ row n (fault_of r) ∷ [])) ≡ (is_whole p && (is_whole q && is_whole r))
three_lists n (faulty place) q r = refl
three_lists n whole (faulty place) r = refl
three_lists n whole whole (faulty place) = refl
three_lists n whole whole whole = refl

-- ---- what a check or a reading told

-- LAW: what holds of the table that was found holds of the one that was kept
pub kept : {A : Type 0} (r : Result A Refusal) (P : A → Type 0) (a : A) → Some a ≡ result_ok r → IfOk r P → P a
kept (Ok b) P a e p = let same : b ≡ a = cc in subst P same p
kept {A = A} (Err why) P a e p = absurd (let z : ◌≡◌ {A = Option A} (Some a) None = e in let w : ◌≡◌ {A = ℕ} 0 1 = cc in omega arith)

-- LAW: where only whether a list was read whole is kept, that says it
pub whole_where : {A : Type 0} (r : Result A ℕ) (o : Option A) {w : Reading} → reading_in r ≡ w → is_some o ≡ is_ok r → is_whole w ≡ is_some o
whole_where (Ok a) o e v = ap is_whole (sym e) ∙ sym v
whole_where (Err i) o e v = ap is_whole (sym e) ∙ sym v

-- LAW: a list was read whole where no refusal was made
pub read_whole : {A : Type 0} (r : Result A ℕ) (m : Result A Refusal) {w : Reading} {a : A} → reading_in r ≡ w → is_ok m ≡ is_ok r → m ≡ Ok a → w ≡ whole
read_whole (Ok b) m e v is = sym e
read_whole (Err i) m e v is = absurd (false≢true (sym v ∙ ap is_ok is))

-- LAW: a refusal that a fault was made into names its place
pub faulty_where : {A : Type 0} (r : Result A ℕ) (m : Result A Refusal) (named : ℕ → Refusal) {w : Reading} {why : Refusal} → reading_in r ≡ w
    → MatchResult r (λ x. m ≡ Ok x) (λ e. IsErrAnd m (λ f. f ≡ named e)) → m ≡ Err why → (place : ℕ) × ((w ≡ faulty place) × (why ≡ named place))
faulty_where {A = A} (Ok a) m named {why = why} e cases is =
    absurd (let z : ◌≡◌ {A = Result A Refusal} (Ok a) (Err why) = sym cases ∙ is in let w : ◌≡◌ {A = ℕ} 0 1 = cc in omega arith)
faulty_where (Err i) m named e cases is = (i, (sym e, rw is at cases))

-- ---- the degree of two headings

module _ (table one two : List ℕ) (s : SoundFile table) where
  abbrev over : Table
  over = table_in table

  abbrev lists : List Row
  lists = row6 over false one ∷ row7 over two ∷ []

  -- LAW: the first's fault refuses the call
  pub first_faulty : (place : ℕ) → reading over false one ≡ faulty place → refused 6 place ≡ heading_degree table one two
  unfolding heading_degree degree_rows
  first_faulty place e = rw (first-append (table_rows table) lists s, row6_is over false one (faulty place) e)

  -- LAW: .. else the second's does
  pub second_faulty : (place : ℕ) → Heading over one → reading over false two ≡ faulty place → refused 7 place ≡ heading_degree table one two
  unfolding heading_degree degree_rows
  second_faulty place w e = rw (first-append (table_rows table) lists s, row6_is over false one whole w, row7_is over two (faulty place) e)

  -- LAW: .. else it gives their degree
  pub both_whole : Heading over one → Heading over two → gives (degree_of over one two) ≡ heading_degree table one two
  unfolding heading_degree degree_rows
  both_whole w v = rw (first-append (table_rows table) lists s, row6_is over false one whole w, row7_is over two whole v)

-- ---- the subterm at an index

module _ (table term : List ℕ) where
  -- LAW: what refuses the table is not accepted
  pub term_unaccepted : {A : Type 0} (r : Result A Refusal) → found r ≡ first (table_rows table) → result_ok r ≡ None → false ≡ accepted (first (subterm_rows table term))
  unfolding subterm_rows
  term_unaccepted r f e = let g = refusal_of table r e f in refused_early (table_rows table) (row6 (table_in table) true term ∷ []) g.0 g.1

  -- LAW: a sound table accepts a list that is a term
  pub term_accepted : SoundFile table → (a : Bool) → is_whole (reading (table_in table) true term) ≡ a → a ≡ accepted (first (subterm_rows table term))
  unfolding subterm_rows
  term_accepted s a e =
      let T = table_in table in
      rw (first-append (table_rows table) (row6 T true term ∷ []) s, row6_is T true term _ refl, one_list 6 (reading T true term), e)

  -- LAW: what is not accepted has no subterm
  pub no_subterm : accepted (first (subterm_rows table term)) ≡ false → (i : ℕ) → subterm table term i ≡ part 0 0
  unfolding subterm
  no_subterm e i = rw (refused_some (first (subterm_rows table term)) e).1

  module _ (e : accepted (first (subterm_rows table term)) ≡ true) where
    -- LAW: what is accepted is a sound table, and a term over it
    pub term_sound : SoundFile table × (reading (table_in table) true term ≡ whole)
    unfolding subterm_rows
    term_sound =
        let list = row6 (table_in table) true term ∷ [] in
        let r = append-none (table_rows table) list (accepted-none (first (subterm_rows table term)) e) in
        (r.0, whole6 (table_in table) true term (all_silent list r.1).0)

    -- LAW: the subterm at an index of the list goes to where the walk from there ends
    pub subterm_to : (i : ℕ) → i < length term → (w : Walk) → walk (table_in table) true term 64 i ≡ w → subterm table term i ≡ part_to i w
    unfolding subterm
    subterm_to i l w q = rw (accepted-none (first (subterm_rows table term)) e, lt-ltb i (length term) l, q)

-- ---- the nearer of two candidates

module _ (table heading one two : List ℕ) where
  abbrev T : Table
  T = table_in table

  abbrev headings : List Row
  headings = row7 T heading ∷ row7 T one ∷ row7 T two ∷ []

  -- LAW: what refuses the table is not accepted
  pub headings_unaccepted : {A : Type 0} (r : Result A Refusal) → found r ≡ first (table_rows table) → result_ok r ≡ None → false ≡ accepted (first (nearer_rows table heading one two))
  unfolding nearer_rows
  headings_unaccepted r f e = let g = refusal_of table r e f in refused_early (table_rows table) headings g.0 g.1

  -- LAW: a sound table accepts three lists that are headings
  pub headings_accepted : SoundFile table → (a b c : Bool) → is_whole (reading T false heading) ≡ a → is_whole (reading T false one) ≡ b → is_whole (reading T false two) ≡ c
      → (a && (b && c)) ≡ accepted (first (nearer_rows table heading one two))
  unfolding nearer_rows
  headings_accepted s a b c p q r =
      rw (first-append (table_rows table) headings s, row7_is T heading _ refl, row7_is T one _ refl, row7_is T two _ refl)
      (rw (three_lists 7 (reading T false heading) (reading T false one) (reading T false two), p, q, r))

  -- LAW: where something is not accepted, neither is nearer
  pub neither_nearer : accepted (first (nearer_rows table heading one two)) ≡ false → nearer table heading one two ≡ neither
  unfolding nearer
  neither_nearer e = rw (refused_some (first (nearer_rows table heading one two)) e).1

  module _ (e : accepted (first (nearer_rows table heading one two)) ≡ true) where
    silent : first (nearer_rows table heading one two) ≡ none
    silent = accepted-none (first (nearer_rows table heading one two)) e

    pub all_sound : SoundFile table × Heading T heading × Heading T one × Heading T two
    unfolding nearer_rows
    all_sound =
        let r = append-none (table_rows table) headings silent in
        let q = all_silent headings r.1 in
        (r.0, whole7 T heading q.0, whole7 T one q.1.0, whole7 T two q.1.1.0)

    -- LAW: the second is nearer where its degree is higher, else the first is
    pub second_nearer : degree_of T heading one < degree_of T heading two → nearer table heading one two ≡ the_second_lem
    unfolding nearer
    second_nearer l = rw (silent, lt-ltb (degree_of T heading one) (degree_of T heading two) l)

    pub first-nearer : degree_of T heading two ≤ degree_of T heading one → nearer table heading one two ≡ the_first
    unfolding nearer
    first-nearer l = rw (silent, le-ltb (degree_of T heading one) (degree_of T heading two) l)
