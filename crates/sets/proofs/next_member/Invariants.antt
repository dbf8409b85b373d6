-- What each turn of the loop keeps.
use Prim.Native.Nat.{◌-◌, ◌≤◌}
use Rattle.meaning.specs.Limits.{set_room}
use Rattle.sets.specs.Words.{NoneBetween}
use Rattle.sets.proofs.next_member.Given as goal

abbrev pub invariant-loop-k : goal.invariant-loop-k
invariant-loop-k l = (l.from ≤ l.k) × (l.k ≤ set_room) × NoneBetween l.words l.from l.k

abbrev pub decreases-loop-k : goal.decreases-loop-k
decreases-loop-k l = set_room - l.k
