-- What each turn of the loop keeps.
use mathlib.Core.Path.{◌≡◌}
use Prim.Native.Nat.{ℕ, ◌-◌, ◌≤◌, ◌<◌}
use Rattle.meaning.specs.File.{pair_count_lem}
use Rattle.meaning.specs.Tables.{lower_at}
use Rattle.degrees.proofs.rows.pass_row.Given as goal

abbrev pub invariant-loop-k : goal.invariant-loop-k
invariant-loop-k l =
    (l.first ≤ l.k) × (l.k ≤ pair_count_lem l.table.file.now) × ((j : ℕ) → l.first ≤ j → j < l.k → lower_at l.table.file.now j ≡ l.row)

abbrev pub decreases-loop-k : goal.decreases-loop-k
decreases-loop-k l = l.pairs - l.k
