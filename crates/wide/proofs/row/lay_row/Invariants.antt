-- What each turn of the loop keeps.
use mathlib.Core.Path.{◌≡◌}
use lib.ListN.{length}
use Rattle.wide.proofs.Walking.{RowTo}
use Rattle.wide.proofs.row.lay_row.Given as goal

abbrev pub invariant-loop-k : goal.invariant-loop-k
invariant-loop-k l = (length l.row ≡ length l.initial.row) × RowTo l.table.file.now l.a l.k l.row
