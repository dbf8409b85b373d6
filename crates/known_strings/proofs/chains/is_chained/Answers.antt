-- The walk goes from the head to the string before it, and passes none that could be the one sought.
use mathlib.Core.Path.{◌≡◌, sym}
use Prim.Native.Nat.{◌-◌}
use native.Mathlib.Omega.{arith}
use Rattle.theory.proofs.Lemmas.{some_of}
use Rattle.known_strings.specs.Chains.{like}
use Rattle.known_strings.proofs.Bytes.{same_told}
use Rattle.known_strings.proofs.Chaining.{walk_less, walk_on, walk_end}
use Rattle.known_strings.proofs.chains.is_chained.Goals as goal

pub returns-then-eq : goal.returns-then-eq
returns-then-eq c =
    let a = c.args in
    let head = c.loop-next in
    sym (some_of a.head (like a.known.text.now a.known.ends.now a.from a.string.now) (head.next - 1) (omega (arith, head.invariant.within)) (same_told _ _ _ _ _ c.string.ensures c.eq.ensures c.if-eq.true))

pub loop-next-smaller : goal.loop-next-smaller
loop-next-smaller c =
    let a = c.args in
    walk_less a.known.text.now a.known.ends.now a.from a.head a.links.now a.string.now c.requires c.loop-next.next (omega arith) c.loop-next.invariant

pub loop-next-preserved : goal.loop-next-preserved
loop-next-preserved c =
    let a = c.args in
    walk_on a.known.text.now a.known.ends.now a.from a.head a.links.now a.string.now c.requires c.loop-next.next (omega arith) c.loop-next.invariant
    (same_told _ _ _ _ _ c.string.ensures c.eq.ensures c.if-eq.false)

pub returns : goal.returns
returns c =
    let a = c.args in
    let e : c.loop-next.next ≡ 0 = omega arith in
    sym (walk_end a.known.text.now a.known.ends.now a.from a.head a.links.now a.string.now c.requires (rw e at c.loop-next.invariant))
