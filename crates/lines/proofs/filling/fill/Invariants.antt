-- The lines up to the next one are put, and each line leaves less to be written.
use lib.ListN.{length}
use Rattle.lines.specs.Lines.{rest_at}
use Rattle.lines.proofs.Turns.{Begun}
use Rattle.lines.proofs.filling.fill.Given as goal

abbrev pub invariant-loop-next : goal.invariant-loop-next
invariant-loop-next l = Begun l.answer.outcome l.answer.spans.now l.answer.sets.now l.fn.first l.initial.text l.next l.text

abbrev pub decreases-loop-next : goal.decreases-loop-next
decreases-loop-next l = length (rest_at l.answer.outcome l.answer.spans.now l.answer.sets.now l.next)
