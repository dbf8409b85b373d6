-- What was handed over and what stands is what was put so far, and with each piece less is left.
use lib.ListN.{length}
use Rattle.lines.specs.Lines.{rest_at}
use Rattle.output.proofs.Going.{Going}
use Rattle.output.proofs.pending.put_answer.Given as goal

abbrev pub invariant-loop-next : goal.invariant-loop-next
invariant-loop-next l = Going l.answer.outcome l.answer.spans.now l.answer.sets.now l.initial.text l.initial.next l.written l.next l.text

abbrev pub decreases-loop-next : goal.decreases-loop-next
decreases-loop-next l = length (rest_at l.answer.outcome l.answer.spans.now l.answer.sets.now l.next)
