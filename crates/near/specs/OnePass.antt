-- One walk over the pairs, which puts each symbol of a pair into the other's set, against asking for the degree of one symbol after the other.
use Rattle.std.specs.Prelude.{◌≡◌, List, Bool, false, ◌&&◌, ◌||◌, ℕ, ◌≤◌, ltb, leb, eqb}
use Rattle.theory.specs.Least.{some}
use Rattle.theory.specs.Pairs.{is_pair}
use Rattle.meaning.specs.File.{pair_count_lem, table_in}
use Rattle.meaning.specs.Tables.{lower_at, higher_at, degree_at}
use Rattle.near.specs.Near.{is_near}

-- Pair i is of h and k, in either order, and reaches the cut.
abbrev pub brings : List ℕ → ℕ → ℕ → ℕ → ℕ → Bool
brings file cut h k i = leb cut (degree_at file i) && is_pair (lower_at file i) (higher_at file i) h k

-- After n pairs k is in the set of h: it is h itself, which is a symbol, or one of these pairs brings it.
abbrev pub walked : List ℕ → ℕ → ℕ → ℕ → ℕ → Bool
walked file cut n h k = (ltb h (table_in file).size && eqb k h) || some n (brings file cut h k)

-- After all pairs the sets hold what asking gives. A number that is no symbol has no set, not even one of itself.
pub record OnePass (file : List ℕ) (cut : ℕ) : Type 0 where
  pub as_asked : (h k : ℕ) → walked file cut (pair_count_lem file) h k ≡ is_near (table_in file) cut h k
  pub none-outside : (h k : ℕ) → (table_in file).size ≤ h → walked file cut (pair_count_lem file) h k ≡ false
