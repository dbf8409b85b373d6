-- What each turn of the loop keeps.
use Prim.Native.Nat.{◌-◌}
use Rattle.wide.proofs.Walking.{StartsBetween}
use Rattle.wide.proofs.row.row_start.Given as goal

abbrev pub invariant-loop-low : goal.invariant-loop-low
invariant-loop-low l = StartsBetween l.table.file.now l.a l.low l.high

abbrev pub decreases-loop-low : goal.decreases-loop-low
decreases-loop-low l = l.high - l.low
