-- How long an answer's text may be, so that its bytes can be counted.
use Rattle.std.specs.Prelude.{ℕ, ◌+◌, ◌*◌}
use Rattle.meaning.specs.Limits.{set_words_lem, variable_count}
use Rattle.lines.specs.Lines.{line_room}

-- as many positions as numbers of 16 bits tell apart
abbrev pub most_positions : ℕ
most_positions = 65536

-- the words of their sets
abbrev pub most_sets : ℕ
most_sets = set_words_lem * most_positions

-- The most bytes of an answer: one line of its own, and for each variable one, and one for each position.
abbrev pub most_text : ℕ
most_text = line_room * (1 + variable_count * (1 + most_positions))
