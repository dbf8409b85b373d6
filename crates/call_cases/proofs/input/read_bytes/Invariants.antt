-- No more bytes are read than the buffer has room for.
use Rattle.std.proofs.Common.{◌-◌, ◌≤◌}
use Rattle.call_cases.proofs.input.read_bytes.Given as goal

abbrev pub invariant-loop-done : goal.invariant-loop-done
invariant-loop-done l = l.done ≤ l.room

abbrev pub decreases-loop-done : goal.decreases-loop-done
decreases-loop-done l = l.room - l.done
