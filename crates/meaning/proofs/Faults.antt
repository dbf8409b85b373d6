-- The places of 6 and 7: the rows tell the place of the list's reading, which is that of its fault; and a call tells it if no row before gives another.
use mathlib.Core.Path.{◌≡◌, refl, sym as inv, ap, ◌∙◌}
use mathlib.Core.Logic.{◌↔◌}
use mathlib.Core.List.{List, [], ◌∷◌, ◌++◌}
use mathlib.Core.Bool.{Bool, true, false}
use mathlib.Core.Option.{none, some as just, some-ne-none}
use Prim.Native.Nat.{ℕ, ◌≤◌, ◌<◌}
use native.Mathlib.Omega.{arith}
use lib.ListN.{length}
use Rattle.theory.specs.Table.{Table}
use Rattle.theory.specs.Least.{All}
use Rattle.theory.specs.Read.{Reading, whole, faulty, reading}
use Rattle.theory.specs.Faults.{FaultAt}
use Rattle.theory.proofs.Faults.{too_long, one_fault, at_fault, fault_at, places}
use Rattle.meaning.specs.File.{table_in}
use Rattle.meaning.specs.Refusals.{refusal, Row, row, row_number, first, fault_of, row5, row6, row7, row8, row9, row10, table_rows, SoundFile}
use Rattle.meaning.specs.Calls.{refused, unless, degree_rows, heading_degree, input_rows, search_rows, match_rows, matched, match_call}
use Rattle.meaning.specs.Faults.{FaultRows, TermFaults, HeadingFaults, MatchFaults}
use Rattle.meaning.proofs.First.{unless_refused, first-append, silent_first}
use Rattle.meaning.proofs.Sound.{sound}
use Rattle.meaning.proofs.Silent.{silent_cut}
use Rattle.meaning.proofs.Parts.{is_term_lem}

-- ---- the rows

small_size : (table : List ℕ) → SoundFile table → (table_in table).size ≤ 32768
small_size table e = omega (arith, (sound table e).small)

-- a row tells the place of what is read
told : (n : ℕ) (r : Reading) (j : ℕ) → first (row n (fault_of r) ∷ []) ≡ just (refusal n j) ↔ (r ≡ faulty j)
told n whole j = ((λ e. absurd (some-ne-none (refusal n j) (inv e))), (λ e. let z : ◌≡◌ {A = ℕ} 0 1 = cc in absurd (omega arith)))
told n (faulty i) j = ((λ e. cc), (λ e. cc))

-- THEOREM: the places of rows 6 and 7, of a table that is not refused
pub fault_rows : (table : List ℕ) → SoundFile table → FaultRows table
unfolding row6 row7
fault_rows table e =
    let T = table_in table in
    let small = small_size table e in
    record {
      six_too_long = λ vars list l. (told 6 (reading T vars list) 1024).1 (too_long T vars list l);
      seven_too_long = λ list l. (told 7 (reading T false list) 1024).1 (too_long T false list l);
      six_at = λ vars list l j. at 6 T small vars list l j;
      seven_at = λ list l j. at 7 T small false list l j;
      one_fault = one_fault T;
    }
  where
    at : (n : ℕ) (T : Table) → T.size ≤ 32768 → (vars : Bool) (list : List ℕ) → length list ≤ 1024 → (j : ℕ)
        → first (row n (fault_of (reading T vars list)) ∷ []) ≡ just (refusal n j) ↔ FaultAt T vars list j
    at n T small vars list l j =
        let t = told n (reading T vars list) j in
        ((λ e. at_fault T small vars list l j (t.0 e)), (λ f. t.1 (fault_at T small vars list l j f)))

-- ---- the calls

-- rows of numbers above 7 give no 6 and no 7
above : (rows : List Row) → All (λ r. 7 < row_number r) rows → (n j : ℕ) → first rows ≡ just (refusal n j) → 7 < n
above [] a n j e = absurd (some-ne-none (refusal n j) (inv e))
above (row m none ∷ rows) a n j e = above rows a.1 n j e
above (row m (just i) ∷ rows) a n j e = let q : m ≡ n = cc in omega (arith, a.0)

whole≢faulty : (j : ℕ) → whole ≡ faulty j → ⊥
whole≢faulty j e = let z : ◌≡◌ {A = ℕ} 0 1 = cc in omega arith

-- 6 is told of what the first list is read as, 7 of what the second is, if the first is read whole
module _ (after : List Row) (h : All (λ r. 7 < row_number r) after) (j : ℕ) where
  six_told : (r s : Reading) → first (row 6 (fault_of r) ∷ row 7 (fault_of s) ∷ after) ≡ just (refusal 6 j) ↔ (r ≡ faulty j)
  six_told (faulty i) s = ((λ e. cc), (λ e. cc))
  six_told whole (faulty i) = ((λ e. let z : ◌≡◌ {A = ℕ} 7 6 = cc in absurd (omega arith)), (λ e. absurd (whole≢faulty j e)))
  six_told whole whole = ((λ e. absurd (omega (arith, above after h 6 j e))), (λ e. absurd (whole≢faulty j e)))

  seven_told : (r s : Reading) → first (row 6 (fault_of r) ∷ row 7 (fault_of s) ∷ after) ≡ just (refusal 7 j) ↔ ((r ≡ whole) × (s ≡ faulty j))
  seven_told (faulty i) s = ((λ e. let z : ◌≡◌ {A = ℕ} 6 7 = cc in absurd (omega arith)), (λ q. absurd (whole≢faulty i (inv q.0))))
  seven_told whole (faulty i) = ((λ e. (refl, cc)), (λ q. let e = q.1 in cc))
  seven_told whole whole = ((λ e. absurd (omega (arith, above after h 7 j e))), (λ q. absurd (whole≢faulty j q.1)))

-- LAW: a call whose rows have 6 and 7, behind rows that do not hold and before rows of higher numbers
term_faults : {A : Type 0} (T : Table) → T.size ≤ 32768 → (vars : Bool) (one two : List ℕ) (before after : List Row) → first before ≡ none → All (λ r. 7 < row_number r) after → (a : A)
    → TermFaults T vars one two (unless (first (before ++ (row6 T vars one ∷ row7 T two ∷ after))) a)
unfolding row6 row7
term_faults T small vars one two before after e h a =
    let r = reading T vars one in
    let s = reading T false two in
    let rows = row 6 (fault_of r) ∷ row 7 (fault_of s) ∷ after in
    let q : first (before ++ rows) ≡ first rows = first-append before rows e in
    let is : (n j : ℕ) → unless (first (before ++ rows)) a ≡ refused n j → first rows ≡ just (refusal n j) = λ n j u. inv q ∙ unless_refused (first (before ++ rows)) a n j u in
    record {
      six = λ j. (
        (λ u. (places T small vars one j).0 ((six_told after h j r s).0 (is 6 j u))),
        (λ f. ap (λ o. unless o a) (q ∙ (six_told after h j r s).1 ((places T small vars one j).1 f))),
      );
      seven = λ j. (
        (λ u. let t = (seven_told after h j r s).0 (is 7 j u) in ((is_term_lem T small vars one).0 t.0, (places T small false two j).0 t.1)),
        (λ f. ap (λ o. unless o a) (q ∙ (seven_told after h j r s).1 ((is_term_lem T small vars one).1 f.0, (places T small false two j).1 f.1))),
      );
    }

-- THEOREM: the places of the degree of two headings
pub heading_faults : HeadingFaults heading_degree
unfolding heading_degree degree_rows
heading_faults table one two e = term_faults (table_in table) (small_size table e) false one two (table_rows table) [] e tt _

-- THEOREM: the places of a match
pub match_faults : MatchFaults match_call
unfolding matched match_rows input_rows search_rows table_rows row8 row9 row10
match_faults table pattern heading cut spans sets e low high =
    term_faults (table_in table) (small_size table e) true pattern heading (table_rows table ++ (row5 cut ∷ []))
    (row8 heading spans sets ∷ search_rows table pattern heading cut) before (omega arith, (omega arith, (omega arith, tt))) _
  where
    before : first (table_rows table ++ (row5 cut ∷ [])) ≡ none
    before = first-append (table_rows table) (row5 cut ∷ []) e ∙ silent_first (row5 cut ∷ []) (silent_cut cut low high, tt)
