-- The next member is found word by word. What is left of a word, shifted down to the bit of symbol k, tells of the symbols from k on: if it
-- is zero, the word has no more members, and else its lowest bit that is set is the next one.
use mathlib.Core.Path.{◌≡◌, sym as inv, ap, ap₂, ◌∙◌}
use mathlib.Core.List.{List}
use mathlib.Core.Bool.{true, false}
use Prim.Native.Nat.{ℕ, ◌+◌, ◌-◌, ◌*◌, ◌/◌, ◌%◌, ◌^◌, ◌≤◌, ◌<◌}
use native.Mathlib.Decide.{dec_lt}
use native.Mathlib.Omega.{arith}
use lib.Count.{count_trailing_zeros}
use lib.Dec.{eqb}
use lib.ListN.{get_or}
use lib.Pow.{shr-shr, shr_lt}
use Rattle.meaning.specs.Limits.{word_bits}
use Rattle.meaning.specs.Buffers.{bit, member}
use Rattle.meaning.proofs.Bits.{bit-zero}
use Rattle.sets.specs.Words.{NoneBetween, NextBelow}
use Rattle.sets.proofs.Word.{low_clear, low_set}

-- what is left of a word from symbol k on
abbrev pub rest_at : List ℕ → ℕ → ℕ
rest_at ws k = get_or ws (k / word_bits) 0 / 2 ^ (k % word_bits)

module _ (ws : List ℕ) (from k : ℕ) where
  abbrev rest : ℕ
  rest = rest_at ws k

  -- its bit i is that of symbol k + i, inside the word
  rest_bit : (i : ℕ) → k % word_bits + i < word_bits → member ws (k + i) ≡ bit i rest
  unfolding member
  rest_bit i l =
      let q : (k + i) / word_bits ≡ k / word_bits = omega arith in
      let r : (k + i) % word_bits ≡ k % word_bits + i = omega arith in
      ap₂ (λ (i j : ℕ). bit i (get_or ws j 0)) r q ∙ inv (ap (λ (n : ℕ). eqb (n % 2) 1) (shr-shr (get_or ws (k / word_bits) 0) (k % word_bits) i))

  -- where its lowest m bits are not set, m more symbols are no members
  none_more : (m : ℕ) → k % word_bits + m ≤ word_bits → ((i : ℕ) → i < m → bit i rest ≡ false) → NoneBetween ws from k → NoneBetween ws from (k + m)
  none_more m l clear none j a b = go (dec_lt j k)
    where
      go : Dec (j < k) → member ws j ≡ false
      go (yes h) = none j a h
      go (no h) =
          let e : j ≡ k + (j - k) = omega arith in
          ap (member ws) e ∙ rest_bit (j - k) (omega arith) ∙ clear (j - k) (omega arith)

  -- LAW: no more in this word
  pub pass_word : rest ≡ 0 → NoneBetween ws from k → NoneBetween ws from ((k / word_bits + 1) * word_bits)
  pass_word e none =
      let to : k + (word_bits - k % word_bits) ≡ (k / word_bits + 1) * word_bits = omega arith in
      rw to at (none_more (word_bits - k % word_bits) (omega arith) (λ i l. ap (bit i) e ∙ bit-zero i) none)

  -- LAW: the next member is in this word
  pub found_in_word : (n end : ℕ) → get_or ws (k / word_bits) 0 < 2 ^ word_bits → from ≤ k → k < word_bits * n → 0 < rest → NoneBetween ws from k
      → NextBelow n ws from end (k + count_trailing_zeros word_bits rest)
  found_in_word n end fits l m some none =
      record {
        not_below = omega arith;
        room = omega (arith, low.0);
        none = none_more (count_trailing_zeros word_bits rest) (omega (arith, low.0)) (low_clear word_bits rest) none;
        is = λ _. rest_bit (count_trailing_zeros word_bits rest) (omega (arith, low.0)) ∙ low.1;
      }
    where
      left : ℕ
      left = word_bits - k % word_bits

      whole : left + k % word_bits ≡ word_bits
      whole = omega arith

      low : (count_trailing_zeros word_bits rest < left) × (bit (count_trailing_zeros word_bits rest) rest ≡ true)
      low = low_set word_bits rest left some (shr_lt left (k % word_bits) (rw whole fits)) (omega arith)
