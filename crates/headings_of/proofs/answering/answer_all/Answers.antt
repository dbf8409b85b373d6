-- By an invariant: after k turns what is said, what stands in the buffer and what is still to come make up the whole text.
use mathlib.Core.Path.{refl, ◌∙◌, subst}
use Rattle.std.specs.Prelude.{Ok}
use Rattle.known_strings.specs.Lent.{listed}
use Rattle.headings_of.specs.Turns.{SpokenTo}
use Rattle.headings_of.proofs.Following.{turns_none, turns_more, turns_over}
use Rattle.headings_of.proofs.answering.answer_all.Goals as goal

pub loop-k-init : goal.loop-k-init
loop-k-init c = let list = c.args.list in (refl, refl, turns_none list.heading list.absent (listed list.known) 0 c.args.out.now c.args.buffer.now)

pub loop-k-preserved : goal.loop-k-preserved
loop-k-preserved c =
    let list = c.args.list in
    let loop = c.loop-k in
    let turned = c.take_turn in
    let spoken = subst (λ rest. SpokenTo list.heading list.absent (listed list.known) loop.k loop.buffer c.args.out.now rest loop.turn.standing loop.out) c.in-Some.is loop.invariant.2 in (
      turned.auto.buffer ∙ loop.invariant.0,
      turned.auto.out ∙ loop.invariant.1,
      turns_more list.heading list.absent (listed list.known) loop.k c.args.out.now loop.buffer loop.out c.in-Some.rest loop.turn.standing spoken turned.new.buffer turned.new.out (Ok c.in_ok-turn.turn) c.in_ok-turn.ensures,
    )

pub returns-in_default : goal.returns-in_default
returns-in_default c =
    let list = c.args.list in
    let loop = c.loop-k in
    turns_over list.heading list.absent (listed list.known) loop.k _ loop.buffer c.args.out.now loop.out loop.turn c.in_default.not-Some loop.invariant.2
