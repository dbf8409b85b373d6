-- What is printed of an input with many records: for each the line with its number, counted from 0, and then its heading or why it has none.
use Rattle.std.specs.Prelude.{List, [], ◌∷◌, ◌++◌, map, ℕ, ◌+◌}
use Rattle.meaning.specs.Calls.{Answer, Yes, refused, gives, zeros}
use Rattle.meaning.specs.Program.{digits, decimal, line, refused_word}
use Rattle.marc.specs.Known.{Known}
use Rattle.marc.specs.Heading.{headed, heading_of}
use Rattle.marc.specs.Stream.{records_in}

-- record, heading
abbrev pub record_word : List ℕ
record_word = 114 ∷ 101 ∷ 99 ∷ 111 ∷ 114 ∷ 100 ∷ []

abbrev pub heading_word : List ℕ
heading_word = 104 ∷ 101 ∷ 97 ∷ 100 ∷ 105 ∷ 110 ∷ 103 ∷ []

-- a number of 64 bits
abbrev pub long_decimal : ℕ → List ℕ
long_decimal n = digits 20 n []

-- the line with a record's number
unfoldable pub record_line : ℕ → List ℕ
record_line k = line (record_word ∷ long_decimal k ∷ [])

-- The line with an answer: three nodes, or a refusal with its place, which may be a high one.
abbrev pub answer_line : Answer Yes → List ℕ → List ℕ
answer_line (gives a) nodes = line (heading_word ∷ map decimal nodes)
answer_line (refused n place) nodes = line (refused_word ∷ decimal n ∷ long_decimal place ∷ [])

module _ (heading absent : ℕ) (ks : List Known) where
  -- what the call says of a record
  unfoldable pub answer_text : List ℕ → List ℕ
  answer_text bytes = answer_line (headed bytes ks heading absent (zeros 3)) (heading_of bytes ks heading absent (zeros 3))

  abbrev pub text_from : ℕ → List (List ℕ) → List ℕ
  text_from k [] = []
  text_from k (bytes ∷ more) = record_line k ++ (answer_text bytes ++ text_from (k + 1) more)

  -- The whole text.
  unfoldable pub headings_text : List ℕ → List ℕ
  headings_text input = text_from 0 (records_in input)
