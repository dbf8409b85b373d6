-- What each turn of the loop keeps.
use mathlib.Core.Path.{◌≡◌}
use mathlib.Core.Option.{none}
use Prim.Native.Nat.{◌≤◌}
use Rattle.theory.specs.Least.{least_below}
use Rattle.meaning.specs.Refusals.{bad_pair_lem}
use Rattle.table.specs.Keys.{key_before_lem}
use Rattle.pairs.proofs.bad_pair.Given as goal

abbrev pub invariant-loop-k : goal.invariant-loop-k
invariant-loop-k g l =
    let listed = g.N.PairNumbers.listed l.numbers in
    (l.k ≤ l.pairs) × (l.previous ≡ key_before_lem listed l.k) × (least_below l.k (bad_pair_lem l.arities listed) ≡ none)
