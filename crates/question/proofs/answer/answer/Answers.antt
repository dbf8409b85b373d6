-- A misshapen question is refused by 12; any other is asked of the match.
use Rattle.question.proofs.Answering.{answered_misshapen}
use Rattle.question.proofs.answer.answer.Goals as goal

pub returns-in_default : goal.returns-in_default
returns-in_default c = rw c.requires.0 (answered_misshapen c.args.input.now c.args.sets.now c.in_default.ensures)
