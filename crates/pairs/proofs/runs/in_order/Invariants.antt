-- What each turn of the loop keeps.
use mathlib.Core.Path.{◌≡◌}
use Prim.Native.Nat.{ℕ, ◌≤◌, ◌<◌}
use Rattle.table.specs.Runs.{LanePasses}
use Rattle.pairs.specs.Reads.{numbers_from}
use Rattle.pairs.proofs.runs.in_order.Given as goal

abbrev pub invariant-loop-lane : goal.invariant-loop-lane
invariant-loop-lane g it =
    let numbers = numbers_from (g.N.PairNumbers.number_of it.numbers) it.at in
    (it.lane ≤ 48) × (it.fault ≡ 0 → (l : ℕ) → l < it.lane → LanePasses it.symbols numbers l)
