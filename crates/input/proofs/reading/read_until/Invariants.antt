-- The bytes that were not used yet stand at the front.
use mathlib.Core.Path.{◌≡◌}
use Prim.Native.Nat.{◌-◌, ◌≤◌}
use lib.ListN.{length, take}
use Rattle.input.specs.Unreads.{unread}
use Rattle.input.proofs.reading.read_until.Given as goal

abbrev pub invariant-loop-read : goal.invariant-loop-read
invariant-loop-read l =
    let kept = l.fn.kept in
    (length l.buffer ≡ length l.fn.buffer) × (l.read ≤ length l.buffer) × (kept.end - kept.at ≤ l.read)
    × (take (kept.end - kept.at) l.buffer ≡ unread l.fn.buffer kept.at kept.end)

abbrev pub decreases-loop-read : goal.decreases-loop-read
decreases-loop-read l = l.wanted - l.read
