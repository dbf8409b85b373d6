-- What follows the length that was read comes next.
use native.Mathlib.Omega.{arith}
use Rattle.input.proofs.Behind.{none_there, no_length, then_follows}
use Rattle.input.proofs.batch.next_question.Goals as goal

pub returns-then-is_empty : goal.returns-then-is_empty
returns-then-is_empty c =
    let read = c.read_until-read in
    none_there _ _ _ _ read.result read.new.buffer read.auto.buffer read.ensures (omega arith)

pub returns-then-len-lt4 : goal.returns-then-len-lt4
returns-then-len-lt4 c =
    let read = c.read_until-read in
    no_length _ _ _ _ read.result read.new.buffer read.auto.buffer read.ensures (λ e. grind arith) (omega arith)

pub returns-then-count-gt65535 : goal.returns-then-count-gt65535
returns-then-count-gt65535 c =
    let read = c.read_until-read in
    let said = c.length_at-count in
    let rest = c.skip-rest in
    let next = c.pass_over in
    then_follows _ _ _ _ read.result read.new.buffer read.auto.buffer read.ensures (omega arith) said.result said.ensures rest.result rest.ensures.0 rest.ensures.1 next.result next.new.buffer next.ensures

pub returns-else-count-gt65535 : goal.returns-else-count-gt65535
returns-else-count-gt65535 c =
    let read = c.read_until-read in
    let said = c.length_at-count in
    let rest = c.skip-rest in
    let next = c.whole_question in
    then_follows _ _ _ _ read.result read.new.buffer read.auto.buffer read.ensures (omega arith) said.result said.ensures rest.result rest.ensures.0 rest.ensures.1 next.result next.new.buffer next.ensures
