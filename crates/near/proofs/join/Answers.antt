-- The words of h are lent, joined, and laid where they were.
use mathlib.Core.Path.{◌≡◌, refl, sym as inv, ◌∙◌, subst}
use Prim.Native.Nat.{ℕ, ◌+◌, ◌-◌, ◌*◌}
use native.Mathlib.Omega.{arith}
use borrow.Rule.Slice.PartMut.{mid_len}
use lib.ListN.{length, take, drop}
use Rattle.near.specs.Near.{near_words, OwnJoined, Joined}
use Rattle.sets.proofs.Laying.{part_over}
use Rattle.near.proofs.Joining.{joined}
use Rattle.near.proofs.join.Goals as goal

pub returns : goal.returns
returns c =
    let a = c.args in
    let near = c.args.near.now in
    let at = near_words * a.h in
    let own = c.join_own.new.own in
    let count : at + near_words - at ≡ near_words = omega arith in
    let whole : length own ≡ near_words = c.join_own.auto.own ∙ mid_len at (at + near_words) near (omega (arith, c.requires.0)) ∙ count in
    let joins = subst (λ (n : ℕ). OwnJoined a.k a.degree (take n (drop at near)) own) count c.join_own.ensures in
    subst (Joined a.h a.k a.degree near) (inv (part_over near at near_words own own refl whole))
    (joined near a.h a.k a.degree own c.requires.0 whole joins)
