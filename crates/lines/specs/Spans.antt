-- The buffers that an answer is read from.
use Rattle.std.specs.Prelude.{List, ℕ, ◌+◌, ◌*◌, ◌≤◌, ◌<◌, length}
use Rattle.meaning.specs.Limits.{set_words_lem, variable_count, span_width}
use Rattle.meaning.specs.Buffers.{first_position_lem, position_count_lem}

-- Every variable has a span, and its positions have sets.
pub record Spanned (spans sets : List ℕ) : Type 0 where
  pub spans_there : span_width * variable_count ≤ length spans
  pub sets_there : (v : ℕ) → v < variable_count → set_words_lem * (first_position_lem spans v + position_count_lem spans v) ≤ length sets
