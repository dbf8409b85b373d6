-- What each turn of the loop keeps.
use mathlib.Core.Path.{◌≡◌}
use mathlib.Core.Option.{none}
use Prim.Native.Nat.{◌+◌, ◌*◌, ◌≤◌}
use Rattle.theory.specs.Least.{least_below}
use Rattle.meaning.specs.Refusals.{bad_pair_lem}
use Rattle.pairs.proofs.runs.good_runs.Given as goal

abbrev pub invariant-loop-run : goal.invariant-loop-run
invariant-loop-run g l = (l.run ≤ l.runs) × (least_below (16 * l.run + 1) (bad_pair_lem l.arities (g.N.PairNumbers.listed l.numbers)) ≡ none)
