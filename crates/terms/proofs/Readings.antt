-- The whole list, from its length and from what the walk over its first term comes to.
use mathlib.Core.Path.{◌≡◌, sym, ap}
use mathlib.Core.List.{List}
use mathlib.Core.Bool.{Bool, false}
use Prim.Native.Nat.{ℕ, ◌≤◌}
use lib.ListN.{length}
use borrow.Author.Tests.{le-ltb, eq-eqb, ne_eqb}
use Rattle.theory.specs.Table.{Table}
use Rattle.theory.specs.Read.{ends, fault, walk, Reading, whole, faulty, reading}
use Rattle.meaning.specs.Refusals.{row, fault_of, row6, row7}

module _ (T : Table) (vars : Bool) (xs : List ℕ) where
  module _ (few : length xs ≤ 1024) (j : ℕ) where
    -- the term is the whole list
    pub all_of_it : ends j ≡ walk T vars xs 64 0 → j ≡ length xs → whole ≡ reading T vars xs
    all_of_it e q = rw (le-ltb 1024 (length xs) few, sym e, eq-eqb j (length xs) q)

    -- nodes stand after it
    pub more_after : ends j ≡ walk T vars xs 64 0 → (j ≡ length xs → ⊥) → faulty j ≡ reading T vars xs
    more_after e q = rw (le-ltb 1024 (length xs) few, sym e, ne_eqb j (length xs) q)

    -- there is none
    pub fault_in : fault j ≡ walk T vars xs 64 0 → faulty j ≡ reading T vars xs
    fault_in e = rw (le-ltb 1024 (length xs) few, sym e)

-- LAW: refusals 6 and 7 have the reading's place
pub row6_is : (T : Table) (vars : Bool) (xs : List ℕ) (r : Reading) → reading T vars xs ≡ r → row6 T vars xs ≡ row 6 (fault_of r)
unfolding row6
row6_is T vars xs r e = ap (λ r. row 6 (fault_of r)) e

pub row7_is : (T : Table) (xs : List ℕ) (r : Reading) → reading T false xs ≡ r → row7 T xs ≡ row 7 (fault_of r)
unfolding row7
row7_is T xs r e = ap (λ r. row 7 (fault_of r)) e
