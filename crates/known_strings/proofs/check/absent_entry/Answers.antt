-- The search passes other numbers, and stops at that of absent dates.
use mathlib.Core.Path.{◌≡◌}
use mathlib.Core.Bool.{true, false}
use Prim.Native.Nat.{ℕ}
use lib.Dec.{eqb}
use Rattle.std.proofs.Common.{rules, tests}
use Rattle.std.proofs.lemmas.Iterator.{IsFirst-from_position, YieldsList-from_slice}
use Rattle.known_strings.proofs.Seeking.{least_in}
use Rattle.known_strings.proofs.check.absent_entry.Goals as goal

pub returns : goal.returns
returns c =
    let a = c.args in
    let is = λ (number : ℕ). eqb number a.absent in
    least_in is a.numbers.now c.position.result
    (IsFirst-from_position _ _ c.position.result (λ x. is x ≡ true) (λ x. is x ≡ false) c.position.ensures.ran (YieldsList-from_slice a.numbers.now cc) (λ x q k. search (rules, tests)) (λ x q k. search (rules, tests)))
