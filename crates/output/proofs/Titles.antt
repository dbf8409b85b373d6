-- A line of a word and a number has at most 22 bytes behind the word: a space, a number of at most twenty digits, and the line end.
use mathlib.Core.List.{List, [], ◌∷◌, ◌++◌}
use Prim.Native.Nat.{ℕ, ◌+◌, ◌≤◌}
use native.Mathlib.Omega.{arith}
use lib.ListN.{length, length-append}
use Rattle.meaning.specs.Program.{digits, line}
use Rattle.lines.proofs.Lengths.{digits_short}
use Rattle.output.specs.Titles.{question_word, title_text, title_room}

-- LAW: no such line is longer
pub numbered_short : (word : List ℕ) (k : ℕ) → length (line (word ∷ digits 20 k [] ∷ [])) ≤ length word + 22
numbered_short word k = omega (arith, length-append word (32 ∷ (digits 20 k [] ++ (10 ∷ []))), length-append (digits 20 k []) (10 ∷ []), digits_short 20 k [])

-- LAW: no title is longer
pub title_short : (k : ℕ) → length (title_text k) ≤ title_room
unfolding title_text
title_short k = numbered_short question_word k
