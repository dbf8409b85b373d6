-- Words as memory has them, those of the set of one symbol, and the next member of a set.
use Rattle.std.specs.Prelude.{◌≡◌, List, true, false, ℕ, ◌*◌, ◌/◌, ◌%◌, ◌^◌, ◌≤◌, ◌<◌, length, get_or, set}
use Rattle.meaning.specs.Limits.{word_bits}
use Rattle.meaning.specs.Calls.{zeros}
use Rattle.meaning.specs.Buffers.{member}

-- n numbers, each of 64 bits
pub record Words (n : ℕ) (ws : List ℕ) : Type 0 where
  pub count : length ws ≡ n
  pub fit : (j : ℕ) → get_or ws j 0 < 2 ^ word_bits

-- n words, with the bit of symbol k set and no other
abbrev pub one_bit : ℕ → ℕ → List ℕ
one_bit n k = set (zeros n) (k / word_bits) (2 ^ (k % word_bits))

-- none of the symbols from `from` on, below `to`, is a member
abbrev pub NoneBetween : List ℕ → ℕ → ℕ → Type 0
NoneBetween ws from to = (k : ℕ) → from ≤ k → k < to → member ws k ≡ false

-- r is the least member of n words that is not below `from`, if that is below `end`; else there is none from `from` on, below `end`
pub record NextBelow (n : ℕ) (ws : List ℕ) (from end r : ℕ) : Type 0 where
  pub not_below : from ≤ r
  pub room : r ≤ word_bits * n
  pub none : NoneBetween ws from r
  pub is : r < end → member ws r ≡ true
