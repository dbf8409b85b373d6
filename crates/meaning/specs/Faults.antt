-- At which place 6 and 7 refuse a list: what is said of the two rows, and of the calls that give them. Statements; the proofs are in proofs/Faults.
use Rattle.std.specs.Prelude.{◌≡◌, ◌↔◌, List, [], ◌∷◌, Bool, true, false, ℕ, ◌≤◌, ◌<◌, length}
use Rattle.std.proofs.Math.Option.{some as just}
use Rattle.theory.specs.Tree.{Pattern}
use Rattle.theory.specs.Table.{Table}
use Rattle.theory.specs.Faults.{FaultAt, FaultPlace}
use Rattle.meaning.specs.File.{table_in}
use Rattle.meaning.specs.Refusals.{refusal, first, row6, row7, SoundFile}
use Rattle.meaning.specs.Calls.{Answer, refused, Matched}
use Rattle.meaning.specs.Parts.{IsTerm}

-- The two rows: a list of more than 1,024 nodes is refused at 1024, whatever its nodes are; every other list at its fault, and at no other place.
pub record FaultRows (table : List ℕ) : Type 0 where
  pub six_too_long : (vars : Bool) (list : List ℕ) → 1024 < length list → first (row6 (table_in table) vars list ∷ []) ≡ just (refusal 6 1024)
  pub seven_too_long : (list : List ℕ) → 1024 < length list → first (row7 (table_in table) list ∷ []) ≡ just (refusal 7 1024)
  pub six_at : (vars : Bool) (list : List ℕ) → length list ≤ 1024
      → (j : ℕ) → first (row6 (table_in table) vars list ∷ []) ≡ just (refusal 6 j) ↔ FaultAt (table_in table) vars list j
  pub seven_at : (list : List ℕ) → length list ≤ 1024
      → (j : ℕ) → first (row7 (table_in table) list ∷ []) ≡ just (refusal 7 j) ↔ FaultAt (table_in table) false list j
  pub one_fault : (vars : Bool) (list : List ℕ) (j k : ℕ) → FaultAt (table_in table) vars list j → FaultAt (table_in table) vars list k → j ≡ k

-- What a call answers that is lent two terms, the first with variables or without: 6 exactly at the place of the first, and 7, if the first is a
-- term, exactly at the place of the second.
pub record TermFaults {A : Type 0} (T : Table) (vars : Bool) (one two : List ℕ) (answer : Answer A) : Type 0 where
  pub six : (j : ℕ) → answer ≡ refused 6 j ↔ FaultPlace T vars one j
  pub seven : (j : ℕ) → answer ≡ refused 7 j ↔ (((p : Pattern) × IsTerm T vars one p) × FaultPlace T false two j)

-- So it is with the degree of two headings, of a table that is not refused,
abbrev pub HeadingFaults : ((table one two : List ℕ) → Answer ℕ) → Type 0
HeadingFaults degree_of = (table one two : List ℕ) → SoundFile table → TermFaults (table_in table) false one two (degree_of table one two)

-- and with a match, if its cut is not refused either.
abbrev pub MatchFaults : ((table pattern heading : List ℕ) (cut : ℕ) (spans sets : List ℕ) → Matched) → Type 0
MatchFaults match =
    (table pattern heading : List ℕ) (cut : ℕ) (spans sets : List ℕ) → SoundFile table → 1 ≤ cut → cut ≤ 1000
    → TermFaults (table_in table) true pattern heading (match table pattern heading cut spans sets).answer
