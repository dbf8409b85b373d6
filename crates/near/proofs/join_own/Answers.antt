-- One shifted up inside a word loses no bit, so `|` sets the bit of k and no other, and the last word grows if the degree is lower than all
-- before. Where the set is not gathered, nothing is written.
use mathlib.Core.Path.{ap, ◌∙◌}
use Prim.Native.Nat.{ℕ, ◌/◌, ◌%◌, ◌^◌}
use native.Mathlib.Nat.{one-mul}
use native.Mathlib.Omega.{arith}
use lib.Bits.{bit_or}
use lib.Dec.{lit<}
use lib.ListN.{get_or}
use lib.Pow.{shl_exact}
use Rattle.meaning.specs.Limits.{word_bits}
use Rattle.near.proofs.Joining.{own_joined}
use Rattle.near.proofs.join_own.Goals as goal

pub returns-then-own-ne-NOT_GATHERED : goal.returns-then-own-ne-NOT_GATHERED
returns-then-own-ne-NOT_GATHERED c =
    let a = c.args in
    let word : ℕ = get_or a.own.now (a.k / word_bits) 0 in
    own_joined a.own.now a.k a.degree c.requires.0 c.requires.1 _ _
    (ap (bit_or word) (shl_exact 1 (a.k % word_bits) word_bits (lit< tt) (omega arith) ∙ one-mul (2 ^ (a.k % word_bits))))
    c.max.ensures
