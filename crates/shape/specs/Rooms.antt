-- How many words the sets of a question's answer need.
use Rattle.std.specs.Prelude.{List, cond, ℕ, ◌*◌, min, ltb, length}
use Rattle.meaning.specs.Limits.{set_words_lem}
use Rattle.meaning.specs.File.{number}

-- A list of so many nodes is too long, and is refused as any longer one is.
abbrev pub longest : ℕ
longest = 1025

-- Words for a set at each of the heading's nodes. A question without a header needs none, since it is refused.
unfoldable pub room_for : List ℕ → ℕ
room_for input = cond (ltb (length input) 14) 0 (set_words_lem * min (number input 4) longest)

-- Words for any question.
abbrev pub most_room : ℕ
most_room = set_words_lem * longest
