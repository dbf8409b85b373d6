-- Reading an answer out of the two buffers, as a cataloguer would.
use Rattle.std.specs.Prelude.{◌≡◌, List, Bool, true, ℕ, ◌+◌, ◌*◌, ◌/◌, ◌%◌, ◌^◌, ◌<◌, eqb, length, get_or}
use Rattle.theory.specs.Tree.{Term, enc}
use Rattle.theory.specs.Table.{Table, Over}
use Rattle.meaning.specs.Limits.{word_bits, set_words_lem, span_width}

-- A variable's span: its first position, how many positions it has, its own lowest and its own highest degree.
abbrev pub first_position_lem : List ℕ → ℕ → ℕ
first_position_lem spans v = get_or spans (span_width * v) 0

abbrev pub position_count_lem : List ℕ → ℕ → ℕ
position_count_lem spans v = get_or spans (span_width * v + 1) 0

abbrev pub own_lowest_lem : List ℕ → ℕ → ℕ
own_lowest_lem spans v = get_or spans (span_width * v + 2) 0

abbrev pub own_highest_lem : List ℕ → ℕ → ℕ
own_highest_lem spans v = get_or spans (span_width * v + 3) 0

-- Bit k of a word, the lowest being bit 0.
abbrev pub bit : ℕ → ℕ → Bool
bit k word = eqb (word / 2 ^ k % 2) 1

-- A set is a row of words: the lowest bit of the first word tells of symbol 0, its highest of symbol 63, the next word goes on.
unfoldable pub member : List ℕ → ℕ → Bool
member words k = bit (k % word_bits) (get_or words (k / word_bits) 0)

-- Symbol k is in the set at position p: the sets stand one after the other.
unfoldable pub holds : List ℕ → ℕ → ℕ → Bool
holds sets p k = bit (k % word_bits) (get_or sets (set_words_lem * p + k / word_bits) 0)

-- The term is drawn from the buffers for variable v: a ground term over the table, with as many nodes as v has positions, and with a
-- symbol of the set at each.
pub record DrawnFrom (T : Table) (spans sets : List ℕ) (v : ℕ) (t : Term) : Type 0 where
  pub over : Over T t
  pub as_many : length (enc t) ≡ position_count_lem spans v
  pub symbols : (k : ℕ) → k < length (enc t) → holds sets (first_position_lem spans v + k) (get_or (enc t) k 0) ≡ true
