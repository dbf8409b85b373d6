-- A match and a refusal differ in their word; what a refusal's number and place are, its own functions say.
use mathlib.Core.Path.{sym}
use Rattle.text.specs.Texts.{numeral}
use Rattle.lines.specs.Lines.{outcome_line}
use Rattle.lines.proofs.line.put_outcome.Goals as goal

pub returns-in-Ok : goal.returns-in-Ok
unfolding outcome_line numeral
returns-in-Ok c = rw c.in-Ok.is c.put_fields.ensures

pub returns-in-Err : goal.returns-in-Err
unfolding outcome_line numeral
returns-in-Err c = rw (c.in-Err.is, sym c.number.ensures, sym c.place.ensures) c.put_fields-in-Err.ensures
