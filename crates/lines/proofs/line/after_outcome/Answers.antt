-- Only a match has variables' lines.
use Rattle.lines.specs.Lines.{after_outcome_lem}
use Rattle.lines.proofs.line.after_outcome.Goals as goal

pub returns-in-Ok : goal.returns-in-Ok
unfolding after_outcome_lem
returns-in-Ok c = rw c.in-Ok.is c.seek.ensures

pub returns-in-Err : goal.returns-in-Err
unfolding after_outcome_lem
returns-in-Err c = rw c.in-Err.is
