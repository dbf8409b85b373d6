-- After k turns the first k questions of what was read are answered, or the batch is over.
use mathlib.Core.Path.{◌≡◌, refl, subst, ◌∙◌}
use native.Mathlib.Omega.{arith}
use Rattle.std.specs.Prelude.{Ok}
use Rattle.replay.specs.Turns.{TurnsBy}
use Rattle.replay.proofs.Turning.{turns_none, turns_more, turns_stop}
use Rattle.replay.proofs.answer_all.Goals as goal

pub loop-k-init : goal.loop-k-init
loop-k-init c = (refl, refl, refl, turns_none c.args.out.now c.args.buffer.now c.front.result c.front.ensures.0 c.front.ensures.1)

pub returns-in_default : goal.returns-in_default
returns-in_default c = let loop = c.loop-k in turns_stop loop.k _ loop.buffer _ loop.out loop.turn c.in_default.is loop.invariant.3

pub loop-k-preserved : goal.loop-k-preserved
loop-k-preserved c =
    let loop = c.loop-k in
    let turned = c.take_turn in
    let some = c.in-Some in (
      turned.auto.buffer ∙ loop.invariant.0,
      turned.auto.sets ∙ loop.invariant.1,
      turned.auto.out ∙ loop.invariant.2,
      turns_more loop.k c.args.out.now loop.buffer loop.out loop.turn some.kept some.is loop.invariant.3 _ turned.new.buffer turned.new.out (Ok c.in_ok-turn.turn) c.in_ok-turn.ensures,
    )

pub returns : goal.returns
returns c =
    let loop = c.loop-k in
    let all : loop.k ≡ 18446744073709551615 = omega arith in
    subst (λ n. TurnsBy n loop.buffer c.args.out.now (Ok loop.turn) loop.out) all loop.invariant.3
