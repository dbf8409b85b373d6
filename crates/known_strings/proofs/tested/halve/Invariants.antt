-- What each turn of the loop keeps.
use Prim.Native.Nat.{◌-◌, ◌≤◌}
use lib.ListN.{length}
use Rattle.known_strings.specs.Lent.{listed}
use Rattle.known_strings.proofs.Seeking.{Between}
use Rattle.known_strings.proofs.tested.halve.Given as goal

abbrev pub invariant-loop-low : goal.invariant-loop-low
invariant-loop-low l =
    (l.low ≤ l.high) × (l.high ≤ length (listed l.known)) × (l.high ≤ length l.known.ends.now)
    × Between l.known.text.now l.known.ends.now l.string (length (listed l.known)) l.low l.high

abbrev pub decreases-loop-low : goal.decreases-loop-low
decreases-loop-low l = l.high - l.low
