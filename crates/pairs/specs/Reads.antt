-- Numbers that pairs are read from, three to a pair.
use Rattle.std.specs.Prelude.{◌≡◌, List, ℕ, ◌+◌, ◌*◌, ◌^◌, ◌<◌, get_or}
use Rattle.theory.specs.Pairs.{Pair, pair}
use Rattle.table.specs.Runs.{pair_of}
use Rattle.table.proofs.Rising.{Short}

-- The numbers from number `at` on.
abbrev pub numbers_from : (ℕ → ℕ) → ℕ → ℕ → ℕ
numbers_from numbers at n = numbers (at + n)

-- The numbers are those of the pairs, as far as so many of these are whole; each is one of 16 bits, and there are no more than a length can say.
pub record Reads (numbers : ℕ → ℕ) (pairs : List Pair) (whole : ℕ) : Type 0 where
  pub are : (k : ℕ) → k < whole → get_or pairs k (pair 0 0 0) ≡ pair_of numbers k
  pub short : (k : ℕ) → Short (get_or pairs k (pair 0 0 0))
  pub fits : 3 * whole < 2 ^ 63
