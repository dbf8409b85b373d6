-- After i turns the first i nodes are the first i numbers.
use mathlib.Core.Path.{◌≡◌, sym, ap, ◌∙◌}
use mathlib.Core.List.{◌++◌}
use native.Mathlib.Omega.{arith}
use lib.ListN.{length, drop}
use lib.Seq.{take_all, length-take-le}
use Rattle.meaning.specs.Program.{numbers_from}
use Rattle.shape.proofs.Copying.{copy_more}
use Rattle.shape.proofs.nodes.copy_nodes.Goals as goal

pub loop-i-preserved : goal.loop-i-preserved
loop-i-preserved c =
    let loop = c.loop-i in
    copy_more c.args.input.now c.args.at loop.i loop.node-items (omega (arith, loop.auto.node-items)) loop.invariant c.number_at.result c.number_at.ensures

pub returns : goal.returns
returns c =
    let a = c.args in
    let loop = c.loop-i in
    let copied = c.min-copied.result in
    let room : length loop.node-items ≡ copied = loop.auto.node-items ∙ length-take-le copied a.out.now (omega arith) in
    let all : loop.i ≡ copied = omega (arith, room, loop.auto.node-items) in
    (c.min-copied.ensures, ap (λ s. s ++ drop copied a.out.now) (sym (take_all loop.i loop.node-items (omega arith)) ∙ loop.invariant ∙ ap (numbers_from a.input.now a.at) all))
