-- By the two cases of what the call says.
use mathlib.Core.Path.{subst}
use Rattle.text.specs.Texts.{PutBy}
use Rattle.headings_of.proofs.Lists.{checked_by}
use Rattle.headings_of.proofs.Lines.{heading_is, refusal_is}
use Rattle.headings_of.proofs.say.put_answer.Goals as goal
use Rattle.headings_of.proofs.say.put_answer.Goals.{After-read_known}

pub returns-in-Ok : goal.returns-in-Ok
returns-in-Ok c =
    let list = c.args.list in
    let k = list.known in
    let read = c.read_known in
    let is = read.ensures k.text.now k.ends.now k.numbers.now list.absent (checked_by k.text.now k.ends.now k.numbers.now list.absent list.tested list.on_this list.bad) in
    subst (λ text. PutBy c.args.text.now text c.put_heading.new.text) (heading_is c.args.bytes.now k.text.now k.ends.now k.numbers.now list.heading list.absent read.result read.new.nodes is c.in-Ok.is) c.put_heading.ensures

pub returns-in-Err : goal.returns-in-Err
returns-in-Err c =
    let list = c.args.list in
    let k = list.known in
    let read = c.read_known in
    let is = read.ensures k.text.now k.ends.now k.numbers.now list.absent (checked_by k.text.now k.ends.now k.numbers.now list.absent list.tested list.on_this list.bad) in
    subst (λ text. PutBy c.args.text.now text c.put_refusal.new.text) (refusal_is c.args.bytes.now k.text.now k.ends.now k.numbers.now list.heading list.absent read.result read.new.nodes is c.in-Err.why c.in-Err.is) c.put_refusal.ensures
