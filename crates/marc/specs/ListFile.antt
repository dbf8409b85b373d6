-- The list of known strings as a file: lines that end with hex 0A. The first has the heading symbol and the number of absent dates, each other one a
-- number and a string; a space parts the two. Told by how one writes it: a file is a list's if it is what one writes for that list.
use Rattle.std.specs.Prelude.{◌≡◌, List, [], ◌∷◌, ◌++◌, ℕ, ◌+◌, ◌<◌, length}
use Rattle.theory.specs.Least.{All}
use Rattle.meaning.specs.Program.{decimal, line}
use Rattle.marc.specs.Known.{Known, known}

-- numbers have 16 bits
abbrev pub Numbered : ℕ → Type 0
Numbered n = n < 65536

-- a string with its number that a line can hold
abbrev pub Listable : Known → Type 0
Listable (known string number) = Numbered number × All (λ b. b ≡ 10 → ⊥) string

abbrev pub line_of : Known → List ℕ
line_of (known string number) = line (decimal number ∷ string ∷ [])

abbrev pub lines_of : List Known → List ℕ
lines_of [] = []
lines_of (k ∷ ks) = line_of k ++ lines_of ks

abbrev pub first_line_lem : ℕ → ℕ → List ℕ
first_line_lem heading absent = line (decimal heading ∷ decimal absent ∷ [])

-- what one writes for a list
unfoldable pub list_text : ℕ → ℕ → List Known → List ℕ
list_text heading absent ks = first_line_lem heading absent ++ lines_of ks

pub record ListFile (bytes : List ℕ) (heading absent : ℕ) (ks : List Known) : Type 0 where
  pub heading_fits : Numbered heading
  pub absent_fits : Numbered absent
  pub each : All Listable ks
  pub written : bytes ≡ list_text heading absent ks

-- no line of the kind can be what these bytes begin with
abbrev pub NoFirstLine : List ℕ → Type 0
NoFirstLine bytes = (heading absent : ℕ) (left : List ℕ) → Numbered heading → Numbered absent → bytes ≡ first_line_lem heading absent ++ left → ⊥

abbrev pub NoLine : List ℕ → Type 0
NoLine bytes = (k : Known) (left : List ℕ) → Listable k → bytes ≡ line_of k ++ left → ⊥

-- A file of another shape, with the first line that is not as it has to be, counted from 1: the lines before it are a list's, and no line can be
-- what follows them.
pub data BadLine (bytes : List ℕ) : ℕ → Type 0 where
  at_first : NoFirstLine bytes → BadLine bytes 1
  behind : (heading absent : ℕ) (ks : List Known) {front : List ℕ} (left : List ℕ) → ListFile front heading absent ks → bytes ≡ front ++ left → 0 < length left
      → NoLine left → BadLine bytes (length ks + 2)
