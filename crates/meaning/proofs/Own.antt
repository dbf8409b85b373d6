-- A variable's own degrees, wherever they are read: where they are the theory's, they are reached by what a matcher gives to the variable and bound what
-- any gives, and a node of the variable brings just them to the degrees of the match.
use mathlib.Core.Path.{◌≡◌, refl, sym as inv, ap, ap₂}
use mathlib.Core.List.{List, [], ◌∷◌}
use mathlib.Core.Bool.{true}
use Prim.Native.Nat.{ℕ, ◌≤◌, ◌<◌, min}
use Rattle.theory.specs.Tree.{Term, Pattern, stands}
use Rattle.theory.specs.Table.{Table, Lawful, Over, Overₚ}
use Rattle.theory.specs.Least.{All, least}
use Rattle.theory.specs.Faces.{Face, meets, binds, faces, facing}
use Rattle.theory.specs.Match.{brings, lowest_for, highest_for, lowest_of_lem, highest_of, Matches}
use Rattle.theory.proofs.Matchers.{Bound, standing}
use Rattle.theory.proofs.Own.{lowest_for_lem, highest_for_lem}
use Rattle.meaning.specs.Calls.{Matched}
use Rattle.meaning.specs.Buffers.{own_lowest_lem, own_highest_lem}
use Rattle.meaning.specs.Matching.{VariableDegrees}

-- the least that the nodes bring, where the two say the same of each variable that stands there
same-least : (T : Table) (own other : ℕ → ℕ) (fs : List Face) → All (Bound (λ v. own v ≡ other v)) fs → least (brings T own) fs ≡ least (brings T other) fs
same-least T own other [] a = refl
same-least T own other (meets f g ∷ fs) a = ap (min (T.deg f g)) (same-least T own other fs a.1)
same-least T own other (binds v t ∷ fs) a = ap₂ min a.0 (same-least T own other fs a.1)

-- LAW: the degrees of each variable, of a result in which one reads them
pub degrees_read : (T : Table) → Lawful T → (p : Pattern) (h : Term) → Overₚ T p → Over T h → (cut : ℕ) → 0 < cut → cut ≤ 1000 → Matches T cut p h → (r : Matched)
    → ((v : ℕ) → stands v p ≡ true → (own_lowest_lem r.spans v ≡ lowest_for T cut (facing v (faces p h))) × (own_highest_lem r.spans v ≡ highest_for T cut (facing v (faces p h))))
    → VariableDegrees T cut p h r (lowest_of_lem T cut (faces p h)) (highest_of T cut (faces p h))
degrees_read T L p h op oh cut pos top a r read =
    record {
      own_lowest_lem-is = λ v s. rw (read v s).0 (lowest_for_lem T L p h op oh cut pos top a v s);
      own_highest_lem-is = λ v s. rw (read v s).1 (highest_for_lem T L p h op oh cut pos top a v s);
      least-lowest = same-least T (λ v. lowest_for T cut (facing v (faces p h))) (own_lowest_lem r.spans) (faces p h) (standing _ p h (λ v s. inv (read v s).0));
      least-highest = same-least T (λ v. highest_for T cut (facing v (faces p h))) (own_highest_lem r.spans) (faces p h) (standing _ p h (λ v s. inv (read v s).1));
    }
