-- What is read lies behind the bytes that are there, inside the buffer.
use Rattle.std.proofs.Common.{length, ◌-◌, ◌≤◌}
use Rattle.list_file.proofs.reading.read_file.Given as goal

abbrev pub invariant-loop-end : goal.invariant-loop-end
invariant-loop-end l = l.end ≤ length l.file

abbrev pub decreases-loop-end : goal.decreases-loop-end
decreases-loop-end l = length l.initial.file - l.end
