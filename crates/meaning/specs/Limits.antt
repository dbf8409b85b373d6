-- Numbers that several definitions share.
use Rattle.std.specs.Prelude.{ℕ, ◌*◌}

-- the bits of a word, the words of a set, and the symbols that a set so has room for
abbrev pub word_bits : ℕ
word_bits = 64

abbrev pub set_words_lem : ℕ
set_words_lem = 8

abbrev pub set_room : ℕ
set_room = word_bits * set_words_lem

-- the most symbols and pairs that a table may have, and the highest arity
abbrev pub most_symbols : ℕ
most_symbols = set_room

abbrev pub most_pairs : ℕ
most_pairs = 8192

abbrev pub most_arguments : ℕ
most_arguments = 8

-- variables are numbered below this, and each has a span of so many numbers
abbrev pub variable_count : ℕ
variable_count = 32

abbrev pub span_width : ℕ
span_width = 4
