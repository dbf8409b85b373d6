-- The buffer keeps its length, and all bytes that are gone or in it are those that came.
use mathlib.Core.Path.{◌≡◌}
use Prim.Native.Nat.{◌-◌}
use lib.ListN.{length}
use Rattle.input.proofs.PassingOver.{PassingOver}
use Rattle.input.proofs.batch.pass_over.Given as goal

abbrev pub invariant-loop-left : goal.invariant-loop-left
invariant-loop-left l = (length l.buffer ≡ length l.fn.buffer) × PassingOver l.fn.buffer l.fn.behind.at l.fn.behind.end l.count l.buffer l.passed l.left

abbrev pub decreases-loop-left : goal.decreases-loop-left
decreases-loop-left l = l.left - (l.passed.end - l.passed.at)
