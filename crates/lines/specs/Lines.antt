-- The answer's text as lines: a cursor says which line comes next. That the lines, one after the other, are the text that the meaning has is
-- proved in proofs/Rest.
use Rattle.std.specs.Prelude.{◌≡◌, List, [], ◌∷◌, ◌++◌, cond, Option, None, Some, Result, Ok, Err, ℕ, zero, suc, ◌+◌, ◌-◌, ◌*◌, ◌<◌, eqb, ltb}
use Rattle.meaning.specs.Limits.{set_room, variable_count}
use Rattle.meaning.specs.Refusals.{number_of, place_of}
use Rattle.meaning.specs.Calls.{Matched}
use Rattle.meaning.specs.Buffers.{first_position_lem, position_count_lem, own_lowest_lem, own_highest_lem}
use Rattle.meaning.specs.Program.{decimal, line, match_word, variable_word, position_line, variable_lines, refused_text, text_of}
use Rattle.refusal.specs.declared.Degrees.{Degrees}
use Rattle.refusal.specs.declared.Refusal.{Refusal}
use Rattle.refusal.specs.Told.{told}
use Rattle.refusal.specs.Outcomes.{result_of}
use Rattle.lines.specs.declared.line.Cursor.{Cursor}
use Rattle.lines.specs.declared.line.Cursor.TheVariants.{First, Variable, Position}
use Rattle.text.specs.declared.Text.{Text}
use Rattle.text.specs.Texts.{PutBy}

-- The text of a match's own answer.
abbrev pub text_in : Matched → List ℕ
text_in r = text_of r r.answer

-- ---- one line

-- Room for any line: the longest has as many symbols as a set has room for, and none is wider than five digits and a space.
abbrev pub line_room : ℕ
line_room = 8 * set_room

unfoldable pub outcome_line : Result Degrees Refusal → List ℕ
outcome_line (Ok d) = line (match_word ∷ decimal d.lowest ∷ decimal d.highest ∷ [])
outcome_line (Err why) = refused_text (number_of (told why)) (place_of (told why))

unfoldable pub variable_line : List ℕ → ℕ → List ℕ
variable_line spans v = line (variable_word v ∷ decimal (position_count_lem spans v) ∷ decimal (own_lowest_lem spans v) ∷ decimal (own_highest_lem spans v) ∷ [])

unfoldable pub symbols_line : List ℕ → ℕ → List ℕ
symbols_line sets position = position_line sets position

-- The line at a cursor.
unfoldable pub line_at : Result Degrees Refusal → List ℕ → List ℕ → Option Cursor → List ℕ
line_at outcome spans sets (Some First) = outcome_line outcome
line_at outcome spans sets (Some (Variable v)) = variable_line spans v
line_at outcome spans sets (Some (Position v k)) = symbols_line sets (first_position_lem spans v + k)
line_at outcome spans sets None = []

-- ---- from line to line

-- of n variables from v on, the first that has positions
unfoldable pub seek_in : List ℕ → ℕ → ℕ → Option Cursor
seek_in spans v zero = None
seek_in spans v (suc n) = cond (eqb (position_count_lem spans v) 0) (seek_in spans (suc v) n) (Some (Variable v))

-- of all from v on
abbrev pub seek_from : List ℕ → ℕ → Option Cursor
seek_from spans v = seek_in spans v (variable_count - v)

unfoldable pub after_outcome_lem : Result Degrees Refusal → List ℕ → Option Cursor
after_outcome_lem (Ok d) spans = seek_from spans 0
after_outcome_lem (Err why) spans = None

unfoldable pub after_position_lem : List ℕ → ℕ → ℕ → Option Cursor
after_position_lem spans v k = cond (ltb (k + 1) (position_count_lem spans v)) (Some (Position v (k + 1))) (seek_from spans (v + 1))

-- The cursor after the line at a cursor.
unfoldable pub next_cursor : Result Degrees Refusal → List ℕ → Option Cursor → Option Cursor
next_cursor outcome spans (Some First) = after_outcome_lem outcome spans
next_cursor outcome spans (Some (Variable v)) = Some (Position v 0)
next_cursor outcome spans (Some (Position v k)) = after_position_lem spans v k
next_cursor outcome spans None = None

-- A cursor that stands at a line, or at the end: its variable has positions, and its position is one of them.
abbrev pub OnLine : List ℕ → Option Cursor → Type 0
OnLine spans (Some First) = Unit {0}
OnLine spans (Some (Variable v)) = (v < variable_count) × (0 < position_count_lem spans v)
OnLine spans (Some (Position v k)) = (v < variable_count) × (k < position_count_lem spans v)
OnLine spans None = Unit {0}

-- ---- all lines

-- n lines from a cursor on
abbrev pub lines_from : Result Degrees Refusal → List ℕ → List ℕ → ℕ → Option Cursor → List ℕ
lines_from outcome spans sets zero cursor = []
lines_from outcome spans sets (suc n) cursor = line_at outcome spans sets cursor ++ lines_from outcome spans sets n (next_cursor outcome spans cursor)

-- f i, f (i + 1), .., n of them, one after the other
abbrev pub upward : ℕ → ℕ → (ℕ → List ℕ) → List ℕ
upward i zero f = []
upward i (suc n) f = f i ++ upward (suc i) n f

-- the lines of a match's variables from v on
abbrev pub variables_from : Matched → ℕ → List ℕ
variables_from r v = upward v (variable_count - v) (variable_lines r)

-- the lines of variable v's positions from k on
abbrev pub positions_from : List ℕ → List ℕ → ℕ → ℕ → List ℕ
positions_from spans sets v k = upward k (position_count_lem spans v - k) (λ i. symbols_line sets (first_position_lem spans v + i))

-- what follows the first line
abbrev pub following : Result Degrees Refusal → List ℕ → List ℕ → List ℕ
following (Ok d) spans sets = variables_from (result_of (Ok d) spans sets) 0
following (Err why) spans sets = []

-- What is still to be written at a cursor.
unfoldable pub rest_at : Result Degrees Refusal → List ℕ → List ℕ → Option Cursor → List ℕ
rest_at outcome spans sets (Some First) = outcome_line outcome ++ following outcome spans sets
rest_at outcome spans sets (Some (Variable v)) = variables_from (result_of outcome spans sets) v
rest_at outcome spans sets (Some (Position v k)) = positions_from spans sets v k ++ variables_from (result_of outcome spans sets) (v + 1)
rest_at outcome spans sets None = []

-- ---- what putting a line comes to

-- The line at the cursor stands behind what stood there, and the cursor is the next one.
pub record LineBy (outcome : Result Degrees Refusal) (spans sets : List ℕ) (cursor : Cursor) (before : Text) (next : Option Cursor) (after : Text) : Type 0 where
  pub put : PutBy before (line_at outcome spans sets (Some cursor)) after
  pub next_is : next ≡ next_cursor outcome spans (Some cursor)
