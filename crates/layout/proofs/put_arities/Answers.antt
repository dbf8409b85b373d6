-- No arity lies over the output at first; each turn lays the next one behind those before it.
use borrow.Author.Rules.{rules}
use mathlib.Core.Path.{refl, ap, ◌∙◌}
use Prim.Native.Nat.{◌+◌}
use native.Mathlib.Omega.{arith}
use lib.ListN.{get_or, set}
use lib.Seq.{take_all}
use Rattle.meaning.specs.Over.{over}
use Rattle.meaning.proofs.Over.{over_none, store_more}
use Rattle.layout.proofs.put_arities.Goals as goal

pub loop-i-init : goal.loop-i-init
loop-i-init c = (refl, over_none c.args.output.now 10)

pub loop-i-preserved : goal.loop-i-preserved
loop-i-preserved c =
    let a = c.args in
    let i = c.loop-i.i in
    (search rules, ap (λ l. set l (10 + i) (get_or a.arities.now i 0)) c.loop-i.invariant.1 ∙ store_more a.output.now 10 a.arities.now i (omega arith) (omega arith))

pub returns : goal.returns
returns c =
    let a = c.args in
    c.loop-i.invariant.1 ∙ ap (over a.output.now 10) (take_all c.loop-i.i a.arities.now (omega arith))
