-- The loop keeps that what is left of both decides: four bytes are the same, or their numbers say which string stands first.
use mathlib.Core.Path.{◌≡◌, sym, ◌∙◌}
use Prim.Native.Nat.{◌*◌, ◌/◌, ◌+◌}
use native.Mathlib.Omega.{arith}
use Rattle.known_strings.proofs.Words.{four_decide, four_passed}
use Rattle.known_strings.proofs.compare.compare.Goals as goal

pub returns-then-is_ne : goal.returns-then-is_ne
returns-then-is_ne c =
    let a = c.args in
    let at = 4 * c.loop-i.i in
    let order = rw (c.four_at.ensures, c.four_at-in-loop-i.ensures) at c.cmp-order.ensures in
    c.loop-i.invariant c.cmp-order.result (four_decide a.one.now a.two.now (λ i. omega (arith, c.type_inv.one i)) (λ i. omega (arith, c.type_inv.two i)) at (omega arith) (omega arith) c.cmp-order.result order (sym c.is_ne.ensures ∙ c.if-is_ne.true))

pub loop-i-preserved : goal.loop-i-preserved
loop-i-preserved c = λ r p.
    let a = c.args in
    let at = 4 * c.loop-i.i in
    let next : 4 * (c.loop-i.i + 1) ≡ at + 4 = omega arith in
    let order = rw (c.four_at.ensures, c.four_at-in-loop-i.ensures) at c.cmp-order.ensures in
    c.loop-i.invariant r (four_passed a.one.now a.two.now (λ i. omega (arith, c.type_inv.one i)) (λ i. omega (arith, c.type_inv.two i)) at (omega arith) (omega arith) c.cmp-order.result order (sym c.is_ne.ensures ∙ c.if-is_ne.false) r (rw next at p))

pub returns : goal.returns
returns c =
    let all : c.loop-i.i ≡ c.min-fours.result / 4 = omega arith in
    rw all at c.loop-i.invariant c.compare_from.result c.compare_from.ensures
