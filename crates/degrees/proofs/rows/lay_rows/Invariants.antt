-- What each turn of the loop keeps.
use mathlib.Core.Path.{◌≡◌}
use Prim.Native.Nat.{◌-◌, ◌≤◌}
use lib.ListN.{length}
use Rattle.meaning.specs.File.{pair_count_lem}
use Rattle.degrees.specs.Rows.{RowsLaid}
use Rattle.degrees.proofs.Narrowing.{Parted}
use Rattle.degrees.proofs.rows.lay_rows.Given as goal

abbrev pub invariant-loop-k : goal.invariant-loop-k
invariant-loop-k l = (l.k ≤ pair_count_lem l.table.file.now) × (length l.rows ≡ length l.initial.rows) × RowsLaid l.table.file.now l.initial.rows l.rows × Parted l.table.file.now l.k

abbrev pub decreases-loop-k : goal.decreases-loop-k
decreases-loop-k l = l.pairs - l.k
