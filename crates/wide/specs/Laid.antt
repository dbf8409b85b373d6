-- What a list of numbers has of the degrees of symbol a, a number for each symbol.
use Rattle.std.specs.Prelude.{◌≡◌, ◌⊎◌, List, ℕ, ◌≤◌, ◌<◌, length, get_or}
use Rattle.meaning.specs.File.{pair_count_lem, table_in}
use Rattle.meaning.specs.Tables.{lower_at, higher_at}

-- pair k stands in a's row
abbrev pub InRow : List ℕ → ℕ → ℕ → Type 0
InRow file a k = lower_at file k ≡ a

-- No pair of a's row stands before pair k, and pair k is one of it, unless none is from there on.
pub record RowFrom (file : List ℕ) (a k : ℕ) : Type 0 where
  pub none_before : (j : ℕ) → j < pair_count_lem file → InRow file a j → k ≤ j
  pub none_skipped : (j : ℕ) → k ≤ j → j < pair_count_lem file → InRow file a j → InRow file a k

-- pair k is of the symbols a and s
abbrev pub Joins : List ℕ → ℕ → ℕ → ℕ → Type 0
Joins file a s k = ((lower_at file k ≡ a) × (higher_at file k ≡ s)) ⊎ ((higher_at file k ≡ a) × (lower_at file k ≡ s))

-- What is not 0 is right, and no pair that was seen says more of what is 0.
pub record Laid (file : List ℕ) (a : ℕ) (Seen : ℕ → Type 0) (row : List ℕ) : Type 0 where
  pub room : (table_in file).size ≤ length row
  pub right : (s : ℕ) → s < (table_in file).size → (get_or row s 0 ≡ 0 → ⊥) → get_or row s 0 ≡ (table_in file).deg s a
  pub none : (s : ℕ) → s < (table_in file).size → get_or row s 0 ≡ 0 → (k : ℕ) → k < pair_count_lem file → Seen k → Joins file a s k → ⊥

-- the degrees of a with all symbols are there
abbrev pub DegreesOf : List ℕ → ℕ → List ℕ → Type 0
DegreesOf file a row = (s : ℕ) → s < (table_in file).size → get_or row s 0 ≡ (table_in file).deg s a
