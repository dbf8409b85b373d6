-- Numbers that are laid over a list stand where they were laid, and elsewhere is what was there. So it is with the words of one symbol.
use mathlib.Core.Path.{◌≡◌, sym as inv, ap, ap₂, ◌∙◌}
use mathlib.Core.List.{List, ◌++◌}
use Prim.Native.Nat.{ℕ, ◌+◌, ◌-◌, ◌*◌, ◌/◌, ◌%◌, ◌≤◌, ◌<◌}
use native.Mathlib.Omega.{arith}
use lib.ListN.{length, get_or, set, length-set, take, drop, length-append}
use lib.Seq.{length-take-le, set-append_left}
use Rattle.meaning.specs.Limits.{word_bits, set_words_lem, set_room}
use Rattle.meaning.specs.Buffers.{bit, member}
use Rattle.std.proofs.lemmas.List.{places, set-append_right}
use borrow.Author.Rules.{rules}
use Rattle.meaning.specs.Over.{over}
use Rattle.near.specs.Near.{near_words, in_row}

module _ (out : List ℕ) (at : ℕ) (xs : List ℕ) (room : at + length xs ≤ length out) where
  -- LAW: they stand where they were laid
  pub laid : (i : ℕ) → i < length xs → get_or (over out at xs) (at + i) 0 ≡ get_or xs i 0
  unfolding over
  laid i l = search (rules, places)

  -- LAW: a store among them is one before they are laid
  pub laid_set : (i v : ℕ) → i < length xs → set (over out at xs) (at + i) v ≡ over out at (set xs i v)
  unfolding over
  laid_set i v l =
      let taken : length (take at out) ≡ at = length-take-le at out (omega arith) in
      let there : at + i - at ≡ i = omega arith in
      set-append_left (take at out ++ xs) (drop (at + length xs) out) (at + i) v (omega (arith, length-append (take at out) xs))
      ∙ ap₂ (λ (l : List ℕ) (n : ℕ). l ++ drop (at + n) out)
      (set-append_right (take at out) xs at (at + i) v taken (omega arith) ∙ ap (λ (n : ℕ). take at out ++ set xs n v) there)
      (inv (length-set xs i v))

  -- LAW: and elsewhere is what was there
  pub not_laid : (i : ℕ) → (at ≤ i → i < at + length xs → ⊥) → get_or (over out at xs) i 0 ≡ get_or out i 0
  unfolding over
  not_laid i apart = grind (arith, places)

-- LAW: the words of h but the last tell what its set has
pub words_hold : (near : List ℕ) (h : ℕ) (words : List ℕ) → ((w : ℕ) → w < set_words_lem → get_or words w 0 ≡ get_or near (near_words * h + w) 0)
    → (k : ℕ) → k < set_room → member words k ≡ in_row near h k
unfolding member in_row
words_hold near h words same k l = ap (bit (k % word_bits)) (same (k / word_bits) (omega arith))
