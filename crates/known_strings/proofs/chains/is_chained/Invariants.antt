-- What each turn of the loop keeps.
use Rattle.known_strings.proofs.Chaining.{WalkTo}
use Rattle.known_strings.proofs.chains.is_chained.Given as goal

abbrev pub invariant-loop-next : goal.invariant-loop-next
invariant-loop-next l = WalkTo l.known.text.now l.known.ends.now l.from l.head l.string l.next

abbrev pub decreases-loop-next : goal.decreases-loop-next
decreases-loop-next l = l.next
