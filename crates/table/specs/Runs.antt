-- Runs of 16 pairs. A run is seen as its numbers, three to a pair, from the pair before it on: that one has the numbers 0 to 2, the run's first pair
-- 3 to 5. Lane l is about number l + 4.
use Rattle.std.specs.Prelude.{◌≡◌, List, ℕ, ◌+◌, ◌*◌, ◌%◌, ◌≤◌, ◌<◌, get_or}
use Rattle.theory.specs.Pairs.{Pair, pair, listed_top}
use Rattle.table.specs.Keys.{key_of, pair_key}

-- ---- one number

-- a higher symbol is above its lower one and a symbol of the table, and their pair comes after the one before; a degree may be listed
abbrev pub Passes : ℕ → ℕ → ℕ → ℕ → ℕ → ℕ → Type 0
Passes lane symbols low high lower here =
    (lane % 3 ≡ 0 → (lower < here) × (here < symbols) × (key_of low high < key_of lower here)) × (lane % 3 ≡ 1 → (1 ≤ here) × (here ≤ listed_top))

abbrev pub LanePasses : ℕ → (ℕ → ℕ) → ℕ → Type 0
LanePasses symbols numbers lane = Passes lane symbols (numbers lane) (numbers (lane + 1)) (numbers (lane + 3)) (numbers (lane + 4))

-- ---- the pairs

-- Pair j, of which the first is the one before the run.
abbrev pub pair_of : (ℕ → ℕ) → ℕ → Pair
pair_of numbers j = pair (numbers (3 * j)) (numbers (3 * j + 1)) (numbers (3 * j + 2))

-- The numbers of a pair are in their ranges, and it comes after a pair with this key.
pub record Follows (symbols before lower higher degree : ℕ) : Type 0 where
  pub rising : lower < higher
  pub inside : higher < symbols
  pub some_degree : 1 ≤ degree
  pub top_degree : degree ≤ listed_top
  pub after : before < key_of lower higher

abbrev pub Next : ℕ → Pair → Pair → Type 0
Next symbols before (pair lower higher degree) = Follows symbols (pair_key before) lower higher degree

-- Its symbols have one arity.
abbrev pub Alike : List ℕ → Pair → Type 0
Alike arities (pair lower higher degree) = get_or arities lower 0 ≡ get_or arities higher 0

-- So it is with every pair of a run.
abbrev pub OrderedRun : ℕ → (ℕ → ℕ) → Type 0
OrderedRun symbols numbers = (j : ℕ) → j < 16 → Next symbols (pair_of numbers j) (pair_of numbers (j + 1))

abbrev pub AlikeRun : List ℕ → (ℕ → ℕ) → Type 0
AlikeRun arities numbers = (j : ℕ) → j < 16 → Alike arities (pair_of numbers (j + 1))
