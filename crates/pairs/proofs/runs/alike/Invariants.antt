-- What each turn of the loop keeps.
use Prim.Native.Nat.{ℕ, ◌+◌, ◌≤◌, ◌<◌}
use Rattle.table.specs.Runs.{pair_of, Alike}
use Rattle.pairs.specs.Reads.{numbers_from}
use Rattle.pairs.proofs.runs.alike.Given as goal

abbrev pub invariant-loop-j : goal.invariant-loop-j
invariant-loop-j g l =
    let numbers = numbers_from (g.N.PairNumbers.number_of l.numbers) l.at in
    (l.j ≤ 16) × ((i : ℕ) → i < l.j → Alike l.arities (pair_of numbers (i + 1)))
