-- Where each symbol's row stands: the pairs whose lower symbol it is.
use Rattle.std.specs.Prelude.{◌≡◌, List, ℕ, ◌+◌, ◌-◌, ◌*◌, ◌≤◌, ◌<◌, length, get_or}
use Rattle.meaning.specs.File.{pair_count_lem, table_in}
use Rattle.meaning.specs.Tables.{lower_at}

-- Two numbers are kept for each symbol: at which pair its row begins at the earliest, and how many pairs stand behind the row at least. So zeros
-- say of every symbol that its row may stand anywhere.
pub record Rows (file rows : List ℕ) : Type 0 where
  pub room : 2 * (table_in file).size ≤ length rows
  pub from : (k : ℕ) → k < pair_count_lem file → get_or rows (2 * lower_at file k) 0 ≤ k
  pub behind : (k : ℕ) → k < pair_count_lem file → k + get_or rows (2 * lower_at file k + 1) 0 < pair_count_lem file
  pub within : (s : ℕ) → s < (table_in file).size → get_or rows (2 * s + 1) 0 ≤ pair_count_lem file

-- The rows are right, and what stands behind them in the list is as it was.
pub record RowsLaid (file before after : List ℕ) : Type 0 where
  pub rows : Rows file after
  pub rest : (i : ℕ) → 2 * (table_in file).size ≤ i → get_or after i 0 ≡ get_or before i 0

-- No pair from pair `first` on is of a row before that of symbol `row`.
abbrev pub NoneBefore : List ℕ → ℕ → ℕ → Type 0
NoneBefore file row first = (j : ℕ) → first ≤ j → j < pair_count_lem file → row ≤ lower_at file j

-- From pair `first` to below pair `end` all are of the row of symbol `row`, and of as many pairs from there on as a stretch has the last is not.
pub record PassedRow (file : List ℕ) (row first stretch end : ℕ) : Type 0 where
  pub onward : first ≤ end
  pub within : end ≤ pair_count_lem file
  pub same : (j : ℕ) → first ≤ j → j < end → lower_at file j ≡ row
  pub stops : end + stretch ≤ pair_count_lem file → lower_at file (end + stretch - 1) ≡ row → ⊥
