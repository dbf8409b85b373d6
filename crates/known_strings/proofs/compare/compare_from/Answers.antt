-- The loop keeps that what is left of both decides, so that the first bytes that differ do, or the end of one.
use mathlib.Core.Path.{sym, ◌∙◌}
use native.Mathlib.Omega.{arith}
use Rattle.known_strings.proofs.Words.{byte_decides, byte_passed, lengths_decide}
use Rattle.known_strings.proofs.compare.compare_from.Goals as goal

pub returns-then-is_ne : goal.returns-then-is_ne
returns-then-is_ne c =
    let a = c.args in
    c.loop-k.invariant c.cmp-here.result (byte_decides a.one.now a.two.now c.loop-k.k (omega arith) (omega arith) c.cmp-here.result c.cmp-here.ensures (sym c.is_ne.ensures ∙ c.if-is_ne.true))

pub loop-k-preserved : goal.loop-k-preserved
loop-k-preserved c = λ r p.
    let a = c.args in
    c.loop-k.invariant r (byte_passed a.one.now a.two.now c.loop-k.k (omega arith) (omega arith) c.cmp-here.result c.cmp-here.ensures (sym c.is_ne.ensures ∙ c.if-is_ne.false) r p)

pub returns : goal.returns
returns c =
    let a = c.args in
    c.loop-k.invariant c.cmp.result (lengths_decide a.one.now a.two.now c.loop-k.k (omega arith) c.cmp.result c.cmp.ensures)
