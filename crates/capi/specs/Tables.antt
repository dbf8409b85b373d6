-- The calls on a table: what each promises for everything that can be lent to it. `r` is what it returns; a name with a prime is what the
-- lent number of that name is later.
use Rattle.std.specs.Prelude.{◌≡◌, List, ℕ}
use Rattle.theory.specs.Pairs.{Pair, pair}
use Rattle.meaning.specs.Calls.{is_table_lem, symbol_degree_lem, arity_back, pair_back}
use Rattle.capi.specs.Answers.{coded, later, later_number}

-- ---- 1. Is this a table?

abbrev pub ShxTable : List ℕ → ℕ → Type 0
ShxTable table r = r ≡ coded (is_table_lem table)

-- ---- 2. The degree of two symbol numbers.

pub record ShxSymbolDegree (table : List ℕ) (a b degree r degree' : ℕ) : Type 0 where
  pub answers : r ≡ coded (symbol_degree_lem table a b)
  pub leaves : degree' ≡ later_number (symbol_degree_lem table a b) degree

-- ---- 8. The arity of a symbol, and the pair at an index, read back.

pub record ShxArity (table : List ℕ) (symbol arity r arity' : ℕ) : Type 0 where
  pub answers : r ≡ coded (arity_back table symbol)
  pub leaves : arity' ≡ later_number (arity_back table symbol) arity

abbrev pub lower_of : Pair → ℕ
lower_of (pair lower higher degree) = lower

abbrev pub higher_of : Pair → ℕ
higher_of (pair lower higher degree) = higher

abbrev pub degree_of : Pair → ℕ
degree_of (pair lower higher degree) = degree

pub record ShxPair (table : List ℕ) (index lower higher degree r lower' higher' degree' : ℕ) : Type 0 where
  pub answers : r ≡ coded (pair_back table index)
  pub leaves_lower : lower' ≡ later lower_of (pair_back table index) lower
  pub leaves_higher : higher' ≡ later higher_of (pair_back table index) higher
  pub leaves_degree : degree' ≡ later degree_of (pair_back table index) degree
