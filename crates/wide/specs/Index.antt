-- What is laid out about the pairs of a table, in one list of numbers: each symbol's row, that is the pairs whose lower symbol it is, a chain of the
-- pairs whose higher symbol it is, and the degrees of the symbols that were asked for last.
use Rattle.std.specs.Prelude.{◌≡◌, List, cond, ℕ, ◌+◌, ◌*◌, ◌≤◌, ◌<◌, eqb, leb, length, get_or}
use Rattle.theory.specs.Least.{last_below}
use Rattle.meaning.specs.File.{pair_count_lem, table_in}
use Rattle.meaning.specs.Tables.{higher_at}
use Rattle.degrees.specs.Rows.{Rows}

-- 1 and the last of the first n pairs whose higher symbol is h, or 0 if there is none
abbrev pub last_with : List ℕ → ℕ → ℕ → ℕ
last_with file h n = last_below n (λ k. eqb (higher_at file k) h)

-- ---- where things stand in the index of a table: behind the rows a mark, then the heads of the chains, then the links; in that of a table that
-- is not small then a tag for each place that keeps the degrees of a symbol, and these places

-- so many places there are
abbrev pub kept_rows : ℕ
kept_rows = 32

-- a table of no more symbols has none
abbrev pub small_table : ℕ
small_table = 16

abbrev pub linked_at : List ℕ → ℕ
linked_at file = 2 * (table_in file).size

abbrev pub heads_at : List ℕ → ℕ
heads_at file = 2 * (table_in file).size + 1

abbrev pub links_at : List ℕ → ℕ
links_at file = 3 * (table_in file).size + 1

abbrev pub tags_at : List ℕ → ℕ
tags_at file = links_at file + pair_count_lem file

-- where place `slot` begins
abbrev pub row_at : List ℕ → ℕ → ℕ
row_at file slot = tags_at file + kept_rows + slot * (table_in file).size

abbrev pub index_room : List ℕ → ℕ
index_room file = tags_at file + cond (leb (table_in file).size small_table) 0 (kept_rows * ((table_in file).size + 1))

-- ---- what stands there

-- The first n pairs are chained by their higher symbols: from a symbol's head to the last of its pairs, and from each to the one before it.
pub record Linked (file : List ℕ) (n : ℕ) (index : List ℕ) : Type 0 where
  pub heads : (h : ℕ) → h < (table_in file).size → get_or index (heads_at file + h) 0 ≡ last_with file h n
  pub links : (k : ℕ) → k < n → get_or index (links_at file + k) 0 ≡ last_with file (higher_at file k) k

-- the degrees of a with all symbols are there from index `from` on
abbrev pub DegreesFrom : List ℕ → ℕ → ℕ → List ℕ → Type 0
DegreesFrom file a from index = (s : ℕ) → s < (table_in file).size → get_or index (from + s) 0 ≡ (table_in file).deg s a

-- A place has the degrees of the symbol that its tag tells: a tag is 1 and the symbol, or 0.
abbrev pub Kept : List ℕ → List ℕ → Type 0
Kept file index = (slot a : ℕ) → slot < kept_rows → get_or index (tags_at file + slot) 0 ≡ a + 1 → DegreesFrom file a (row_at file slot) index

-- What an index may be relied on for: its rows, and its chains and what it keeps once the mark is 1.
pub record Index (file index : List ℕ) : Type 0 where
  pub room : index_room file ≤ length index
  pub rows : Rows file index
  pub linked : get_or index (linked_at file) 0 ≡ 1 → Linked file (pair_count_lem file) index
  pub kept : get_or index (linked_at file) 0 ≡ 1 → small_table < (table_in file).size → Kept file index

-- an index with its chains
abbrev pub Chained : List ℕ → List ℕ → Type 0
Chained file index = Index file index × (get_or index (linked_at file) 0 ≡ 1)
