-- What each turn of the loop keeps.
use Prim.Native.Nat.{◌-◌}
use Rattle.meaning.specs.File.{pair_count_lem}
use Rattle.degrees.specs.Sought.{key_at, Between}
use Rattle.degrees.proofs.listed_between.Given as goal

abbrev pub invariant-loop-low : goal.invariant-loop-low
invariant-loop-low l = Between (key_at l.table.file.now) (pair_count_lem l.table.file.now) l.wanted l.low l.high

abbrev pub decreases-loop-low : goal.decreases-loop-low
decreases-loop-low l = l.high - l.low
