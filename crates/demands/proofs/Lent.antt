-- Buffers that the examples lend: all zeros, and just long enough for a heading of so many nodes.
use mathlib.Core.List.{List, ◌∷◌}
use Prim.Native.Nat.{ℕ, ◌-◌, ◌*◌}
use Rattle.meaning.specs.Limits.{set_words_lem, variable_count, span_width}
use Rattle.meaning.specs.Calls.{zeros}

abbrev pub no_spans : List ℕ
no_spans = zeros (span_width * variable_count)

abbrev pub no_sets : ℕ → List ℕ
no_sets nodes = zeros (set_words_lem * nodes)

-- the words of a set without a symbol past its first word
abbrev pub image : ℕ → List ℕ
image word = word ∷ zeros (set_words_lem - 1)
