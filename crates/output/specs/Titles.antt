-- What is said of each question of a batch besides its answer.
use Rattle.std.specs.Prelude.{List, [], ◌∷◌, ℕ}
use Rattle.meaning.specs.Program.{digits, line}

-- question, cut, off
abbrev pub question_word : List ℕ
question_word = 113 ∷ 117 ∷ 101 ∷ 115 ∷ 116 ∷ 105 ∷ 111 ∷ 110 ∷ []

abbrev pub cut_word : List ℕ
cut_word = 99 ∷ 117 ∷ 116 ∷ []

abbrev pub off_word : List ℕ
off_word = 111 ∷ 102 ∷ 102 ∷ []

-- The line with a question's number, which may have twenty digits.
unfoldable pub title_text : ℕ → List ℕ
title_text k = line (question_word ∷ digits 20 k [] ∷ [])

-- The line of a question that ends before its last byte.
abbrev pub cut_off_text : List ℕ
cut_off_text = line (cut_word ∷ off_word ∷ [])

-- A title has no more bytes.
abbrev pub title_room : ℕ
title_room = 30
