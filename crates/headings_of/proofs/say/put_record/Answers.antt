-- One line is put behind the other.
use native.Mathlib.Omega.{arith}
use Rattle.text.specs.Texts.{long_numeral}
use Rattle.text.proofs.Puts.{put_then}
use Rattle.marc.specs.Printed.{record_line}
use Rattle.headings_of.proofs.Lines.{record_short}
use Rattle.headings_of.proofs.say.put_record.Goals as goal

pub put_answer-requires : goal.put_answer-requires
unfolding record_line long_numeral
put_answer-requires c = omega (arith, c.put_numbered.ensures.ends, c.put_numbered.ensures.room, record_short c.args.k)

pub returns : goal.returns
unfolding record_line long_numeral
returns c = put_then c.put_numbered.ensures c.put_answer.ensures
