-- Each turn clears a part more.
use mathlib.Core.Path.{refl}
use Prim.Native.Nat.{◌-◌, ◌≤◌}
use borrow.Rule.Slice.PartMut.{same_len_mid}
use native.Mathlib.Omega.{arith}
use lib.ListN.{length}
use Rattle.matching.proofs.Clearing.{clearing_part}
use Rattle.matching.proofs.clear.clear_words.Goals as goal

pub loop-at-preserved : goal.loop-at-preserved
loop-at-preserved c =
    let loop = c.loop-at in
    let end = c.min-end.result in
    let few : end ≤ length loop.out = omega (arith, c.min-end.ensures) in
    clearing_part _ _ loop.invariant end (omega (arith, c.min-end.ensures)) (omega (arith, few, loop.invariant.kept)) (c.fill.ensures.after (λ y e. e)) refl
    (same_len_mid loop.at (end - loop.at) loop.out c.fill.new.self c.fill.auto.self)
