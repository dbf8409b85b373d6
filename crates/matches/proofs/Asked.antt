-- The tests before a search, and what the call says of their outcome: each row is looked at once those before it are silent; a refusal leaves
-- the buffers as they were, and otherwise the search answers.
use mathlib.Core.Path.{◌≡◌, sym as inv, ap, ◌∙◌}
use mathlib.Core.List.{List, [], ◌∷◌}
use mathlib.Core.Bool.{true, false, ◌||◌, not, false≢true}
use mathlib.Core.Option.{Option, none, some as just}
use Prim.Native.Nat.{ℕ, ◌≤◌, ◌<◌}
use native.Mathlib.Decide.{dec_lt}
use native.Mathlib.Omega.{arith}
use lib.Dec.{ltb, leb}
use borrow.Author.Tests.{lt-ltb, le-ltb, lt-leb, le-leb, ltb-false}
use Rattle.theory.specs.Table.{Table}
use Rattle.std.specs.Prelude.{Result, Ok, Err, is_ok, MatchResult}
use Rattle.std.specs.Result.{IsErrAnd}
use Rattle.theory.specs.Read.{Reading, whole, faulty, reading}
use Rattle.meaning.specs.File.{table_in}
use Rattle.meaning.specs.Refusals.{Refusal as Given, refusal, row, row_place, first, row5, row8, table_rows, SoundFile}
use Rattle.meaning.specs.Calls.{refused_as, input_rows, match_call}
use Rattle.meaning.proofs.First.{first-append}
use Rattle.meaning.proofs.Compose.{by_input}
use Rattle.meaning.proofs.Sound.{at0-none}
use Rattle.theory.proofs.Lemmas.{both_false}
use Rattle.refusal.specs.declared.Refusal.{Refusal}
use Rattle.refusal.specs.declared.Degrees.{Degrees}
use Rattle.refusal.specs.Told.{told}
use Rattle.terms.specs.Readings.{reading_in}
use Rattle.terms.proofs.Readings.{row6_is, row7_is}
use Rattle.refusal.specs.Outcomes.{result_of}
use Rattle.matches.specs.Matching.{MatchHeading, asked_rows}
use Rattle.sound.proofs.Checks.{stays_refused}

-- LAW: below is not at least
pub below_not : (a b : ℕ) → ltb a b ≡ not (leb b a)
below_not a b = go (dec_lt a b)
  where
    go : Dec (a < b) → ltb a b ≡ not (leb b a)
    go (yes l) = rw (lt-ltb a b l, lt-leb b a l)
    go (no l) = rw (le-ltb a b (omega arith), le-leb b a (omega arith))

-- LAW: a cut that is not refused is a degree above 0
pub cut_degree : (cut : ℕ) → row5 cut ≡ row 5 none → (0 < cut) × (cut ≤ 1000)
unfolding row5
cut_degree cut e =
    let u = both_false (ltb cut 1) (ltb 1000 cut) (at0-none (ltb cut 1 || ltb 1000 cut) (ap row_place e)) in
    (ltb-false cut 1 u.0, ltb-false 1000 cut u.1)

-- ---- a list's fault, made into a refusal

-- LAW: a list was read whole where none was made
pub read_whole : {A : Type 0} (r : Result A ℕ) (m : Result A Refusal) {w : Reading} {a : A} → reading_in r ≡ w → is_ok m ≡ is_ok r → m ≡ Ok a → w ≡ whole
read_whole (Ok b) m e v is = inv e
read_whole (Err i) m e v is = absurd (false≢true (inv v ∙ ap is_ok is))

-- LAW: one that was made names the fault's place
pub faulty_where : {A : Type 0} (r : Result A ℕ) (m : Result A Refusal) (named : ℕ → Refusal) {w : Reading} {why : Refusal} → reading_in r ≡ w
    → MatchResult r (λ x. m ≡ Ok x) (λ e. IsErrAnd m (λ f. f ≡ named e)) → m ≡ Err why → (place : ℕ) × (w ≡ faulty place) × (why ≡ named place)
faulty_where {A = A} (Ok a) m named e cases is = absurd (cc (cases, is))
faulty_where (Err i) m named e cases is = (i, inv e, rw is at cases)

module _ (table pattern heading : List ℕ) (cut : ℕ) (spans sets : List ℕ) where
  abbrev T : Table
  T = table_in table

  -- ---- over a sound table

  -- LAW: the cut refuses
  pub asked_cut : row5 cut ≡ row 5 (just 0) → just (refusal 5 0) ≡ first (asked_rows table pattern heading cut spans sets)
  unfolding asked_rows
  asked_cut e = rw e

  module _ (c : row5 cut ≡ row 5 none) where
    -- LAW: .. or else the pattern does
    pub asked_pattern : (node : ℕ) → reading T true pattern ≡ faulty node → just (refusal 6 node) ≡ first (asked_rows table pattern heading cut spans sets)
    unfolding asked_rows
    asked_pattern node e = rw (c, row6_is T true pattern (faulty node) e)

    module _ (p : reading T true pattern ≡ whole) where
      -- LAW: .. or else the heading
      pub asked_heading : (node : ℕ) → reading T false heading ≡ faulty node → just (refusal 7 node) ≡ first (asked_rows table pattern heading cut spans sets)
      unfolding asked_rows
      asked_heading node e = rw (c, row6_is T true pattern whole p, row7_is T heading (faulty node) e)

      -- LAW: .. or else the room decides
      pub asked_room : reading T false heading ≡ whole → (o : Option ℕ) → row8 heading spans sets ≡ row 8 o
          → first (row 8 o ∷ []) ≡ first (asked_rows table pattern heading cut spans sets)
      unfolding asked_rows
      asked_room h o e = rw (c, row6_is T true pattern whole p, row7_is T heading whole h, e)

  -- ---- over any table

  -- LAW: the table refuses
  pub input_table : (g : Given) → first (table_rows table) ≡ just g → first (input_rows table pattern heading cut spans sets) ≡ just g
  unfolding input_rows asked_rows
  input_table g e = stays_refused (table_rows table) (asked_rows table pattern heading cut spans sets) g e

  -- LAW: .. or else what is asked decides
  pub input_asked : SoundFile table → (o : Option Given) → o ≡ first (asked_rows table pattern heading cut spans sets)
      → o ≡ first (input_rows table pattern heading cut spans sets)
  unfolding input_rows asked_rows
  input_asked s o e = e ∙ inv (first-append (table_rows table) (asked_rows table pattern heading cut spans sets) s)

  -- ---- the call

  -- LAW: the promise is what the meaning has for the match
  pub promised : (r : Result Degrees Refusal) (spans' sets' : List ℕ) → result_of r spans' sets' ≡ match_call table pattern heading cut spans sets
      → MatchHeading table pattern heading cut spans sets r spans' sets'
  promised r spans' sets' e = record { answers = ap (λ m. m.answer) e; spans_later = ap (λ m. m.spans) e; sets_later = ap (λ m. m.sets) e }

  -- LAW: a refusal leaves the buffers as they were
  pub refused_promise : (why : Refusal) → first (input_rows table pattern heading cut spans sets) ≡ just (told why)
      → MatchHeading table pattern heading cut spans sets (Err why) spans sets
  refused_promise why e = promised (Err why) spans sets (inv (go (told why) e))
    where
      go : (g : Given) → first (input_rows table pattern heading cut spans sets) ≡ just g
          → match_call table pattern heading cut spans sets ≡ record { answer = refused_as g; spans = spans; sets = sets }
      go (refusal n place) e = by_input table pattern heading cut spans sets n place e
