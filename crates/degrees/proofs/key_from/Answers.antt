-- Turned by half, a number of two halves has them exchanged: what is shifted out above is lost, and nothing of the halves meets.
use borrow.Author.Rules.{rules}
use mathlib.Core.Path.{◌≡◌, ap₂, ◌∙◌}
use Prim.Native.Nat.{ℕ, ◌*◌, ◌/◌, ◌%◌, ◌^◌, ◌<◌}
use native.Mathlib.Omega.{arith}
use lib.Bits.{bit_or, or_shifted}
use Rattle.table.specs.Keys.{key_of}
use Rattle.degrees.proofs.key_from.Goals as goal

turned : (both low high : ℕ) → both ≡ key_of high low → low < 65536 → high < 65536 → bit_or ((both * 2 ^ 16) % 2 ^ 32) (both / 2 ^ 16) ≡ key_of low high
turned both low high is l h =
    let above : (both * 65536) % 4294967296 ≡ low * 65536 = omega arith in
    let below : both / 65536 ≡ high = omega arith in
    ap₂ bit_or above below ∙ or_shifted low 16 high h

pub returns : goal.returns
returns c =
    let higher = c.number_at in
    let lower = c.number_at-2 in
    let short : lower.result < 65536 = search rules in
    let short-2 : higher.result < 65536 = search rules in
    c.rotate_left.ensures ∙ turned c.key.result lower.result higher.result c.key.ensures short short-2 ∙ ap₂ key_of lower.ensures higher.ensures
