-- One shifted up inside a word loses no bit, so `|` sets the bit of k and no other.
use mathlib.Core.Path.{ap, ◌∙◌}
use Prim.Native.Nat.{ℕ, ◌/◌, ◌%◌, ◌^◌, ◌<◌}
use native.Mathlib.Nat.{one-mul}
use native.Mathlib.Omega.{arith}
use lib.Bits.{bit_or}
use lib.Dec.{lit<}
use lib.Pow.{shl_exact}
use lib.ListN.{length, get_or, set}
use Rattle.meaning.specs.Limits.{word_bits}
use Rattle.meaning.specs.Buffers.{member}
use Rattle.sets.proofs.Laws.{member_with}
use Rattle.sets.proofs.insert.Goals as goal

pub returns : goal.returns
returns c = λ j.
    let a = c.args in
    let k = c.args.k in
    let ws = c.args.words.now in
    let inside : k / word_bits < length ws = omega (arith, c.requires.0, c.requires.1) in
    ap (λ (v : ℕ). member (set ws (k / word_bits) (bit_or (get_or ws (k / word_bits) 0) v)) j)
    (shl_exact 1 (k % word_bits) word_bits (lit< tt) (omega arith) ∙ one-mul (2 ^ (k % word_bits)))
    ∙ member_with ws k inside j
