-- Nothing is read once the input is over; else it is over where fewer bytes came than are wanted.
use Rattle.std.proofs.Common.{ap, ltb}
use Rattle.marc_input.proofs.Following.{filled_over, filled}
use Rattle.marc_input.proofs.rest.fill.Goals as goal

pub returns-then-rest : goal.returns-then-rest
returns-then-rest c = filled_over _ c.args.rest c.args.wanted c.requires.0 c.if-rest.true

pub returns : goal.returns
returns c =
    let read = c.read_until-unread in
    filled _ c.args.rest c.args.wanted c.if-rest.false read.result _ read.new.buffer read.auto.buffer (ap (λ n. ltb n c.args.wanted) c.len.ensures) read.ensures
