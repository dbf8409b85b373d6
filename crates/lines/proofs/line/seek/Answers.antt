-- The variables passed have no positions, so the search from where the loop stands is the whole search.
use mathlib.Core.Path.{refl, sym, ◌∙◌}
use native.Mathlib.Omega.{arith}
use Rattle.lines.proofs.Seeking.{seek_here, seek_past, seek_end}
use Rattle.lines.proofs.line.seek.Goals as goal

pub loop-v-init : goal.loop-v-init
loop-v-init c = (omega arith, refl)

pub returns-then-span_at-gt0 : goal.returns-then-span_at-gt0
returns-then-span_at-gt0 c =
    let loop = c.loop-v in
    sym (seek_here c.args.answer.spans.now loop.v (omega arith) (omega arith)) ∙ loop.invariant.1

pub loop-v-preserved : goal.loop-v-preserved
loop-v-preserved c =
    let loop = c.loop-v in
    (omega arith, sym (seek_past c.args.answer.spans.now loop.v (omega arith) (omega arith)) ∙ loop.invariant.1)

pub returns : goal.returns
returns c =
    let loop = c.loop-v in
    sym (seek_end c.args.answer.spans.now loop.v (omega arith)) ∙ loop.invariant.1
