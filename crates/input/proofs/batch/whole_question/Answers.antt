-- There are enough bytes, or the input has ended.
use native.Mathlib.Omega.{arith}
use Rattle.input.proofs.Behind.{too_few, enough}
use Rattle.input.proofs.batch.whole_question.Goals as goal

pub returns-then-len-count : goal.returns-then-len-count
returns-then-len-count c =
    let read = c.read_until-read in
    too_few _ _ _ _ read.result read.new.buffer read.auto.buffer read.ensures (omega arith)

pub returns : goal.returns
returns c =
    let read = c.read_until-read in
    let rest = c.skip in
    enough _ _ _ _ read.result read.new.buffer read.auto.buffer read.ensures (omega arith) (omega arith) rest.result rest.ensures.0 rest.ensures.1
