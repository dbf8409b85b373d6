-- What is still to be written at a cursor is the line there and what is still to be written at the next one; at the first line it is the
-- whole text. So the lines, one after the other, are the text.
use mathlib.Core.Path.{◌≡◌, refl, sym, ap, ap₂, ◌∙◌}
use mathlib.Core.Logic.{◌↔◌}
use mathlib.Core.List.{List, [], ◌∷◌, ◌++◌, map, append-nil, append_assoc}
use mathlib.Core.Bool.{Bool, cond}
use Prim.Native.Nat.{ℕ, zero, suc, ◌+◌, ◌-◌, ◌≤◌, ◌<◌}
use native.Mathlib.Nat.{add-zero}
use native.Mathlib.Decide.{dec_lt}
use native.Mathlib.Omega.{arith}
use lib.Dec.{eqb, ltb}
use lib.ListN.{length, length-append}
use borrow.Author.Tests.{eq-eqb, ne_eqb, lt-ltb, le-ltb}
use Rattle.theory.specs.Least.{collect}
use Rattle.meaning.specs.Limits.{set_room, variable_count}
use Rattle.meaning.specs.Packing.{through}
use Rattle.meaning.specs.Refusals.{Refusal, refusal, number_of, place_of}
use Rattle.meaning.specs.Calls.{Matched, refused_as}
use Rattle.meaning.specs.Buffers.{first_position_lem, position_count_lem, own_lowest_lem, own_highest_lem, holds}
use Rattle.meaning.specs.Program.{decimal, match_word, refused_word, variable_word, variable_lines, refused_text, text_of}
use Rattle.std.specs.Prelude.{Option, None, Some, Result, Ok, Err}
use Rattle.refusal.specs.declared.Degrees.{Degrees}
use Rattle.refusal.specs.declared.Refusal.{Refusal as Why}
use Rattle.refusal.specs.Told.{told}
use Rattle.refusal.specs.Outcomes.{result_of}
use Rattle.lines.specs.declared.line.Cursor.{Cursor}
use Rattle.lines.specs.declared.line.Cursor.TheVariants.{First, Variable, Position}
use Rattle.lines.specs.Lines.{
  text_in,
  outcome_line,
  variable_line,
  symbols_line,
  line_at,
  seek_in,
  seek_from,
  after_outcome_lem,
  after_position_lem,
  next_cursor,
  OnLine,
  lines_from,
  upward,
  variables_from,
  following,
  positions_from,
  rest_at,
}
use Rattle.lines.proofs.Joined.{line-some}

-- ---- upward and through

module _ (f : ℕ → List ℕ) where
  upward_last : (i n : ℕ) → upward i (suc n) f ≡ upward i n f ++ f (i + n)
  upward_last i zero = append-nil (f i) ∙ ap f (sym (add-zero i))
  upward_last i (suc n) =
      let e : suc i + n ≡ i + suc n = omega arith in
      ap (λ t. f i ++ t) (upward_last (suc i) n ∙ ap (λ j. upward (suc i) n f ++ f j) e) ∙ sym (append_assoc (f i) (upward (suc i) n f) (f (i + suc n)))

  through-upward : (n : ℕ) → through n f ≡ upward 0 n f
  through-upward zero = refl
  through-upward (suc n) =
      let e : n ≡ 0 + n = omega arith in
      ap₂ (λ t j. t ++ f j) (through-upward n) e ∙ sym (upward_last 0 n)

  -- one of n that are left
  upward-first : (i n : ℕ) → i < n → upward i (n - i) f ≡ f i ++ upward (i + 1) (n - (i + 1)) f
  upward-first i n l =
      let e : n - i ≡ suc (n - (i + 1)) = omega arith in
      let s : suc i ≡ i + 1 = omega arith in
      rw e (ap (λ j. f i ++ upward j (n - (i + 1)) f) s)

module _ (outcome : Result Degrees Why) (spans sets : List ℕ) where
  abbrev r : Matched
  r = result_of outcome spans sets

  abbrev rest : Option Cursor → List ℕ
  rest = rest_at outcome spans sets

  -- the lines of a variable that has positions, and of one that has none
  pub some_lines : (v : ℕ) → 0 < position_count_lem spans v → variable_lines r v ≡ variable_line spans v ++ positions_from spans sets v 0
  unfolding variable_line symbols_line
  some_lines v l =
      let n = position_count_lem spans v in
      let f : ℕ → List ℕ = λ k. symbols_line sets (first_position_lem spans v + k) in
      let e : n ≡ n - 0 = omega arith in
      rw (ne_eqb n 0 (λ z. omega arith)) (ap (λ t. variable_line spans v ++ t) (through-upward f n ∙ ap (λ k. upward 0 k f) e))

  pub no_lines : (v : ℕ) → position_count_lem spans v ≤ 0 → variable_lines r v ≡ []
  no_lines v l = rw (eq-eqb (position_count_lem spans v) 0 (omega arith))

  rest_seek : (v n : ℕ) → v + n ≡ variable_count → upward v n (variable_lines r) ≡ rest (seek_in spans v n)
  unfolding seek_in rest_at
  rest_seek v zero e = refl
  rest_seek v (suc n) e = go (dec_lt 0 count) (rest_seek (suc v) n (omega arith))
    where
      count : ℕ
      count = position_count_lem spans v

      found : Bool → List ℕ
      found empty = rest (cond empty (seek_in spans (suc v) n) (Some (Variable v)))

      go : Dec (0 < count) → upward (suc v) n (variable_lines r) ≡ rest (seek_in spans (suc v) n) → upward v (suc n) (variable_lines r) ≡ found (eqb count 0)
      go (yes l) later =
          let left : suc n ≡ variable_count - v = omega arith in
          ap (λ k. upward v k (variable_lines r)) left ∙ ap found (sym (ne_eqb count 0 (λ z. omega arith)))
      go (no l) later =
          ap (λ t. t ++ upward (suc v) n (variable_lines r)) (no_lines v (omega arith)) ∙ later ∙ ap found (sym (eq-eqb count 0 (omega arith)))

  rest_from : (v : ℕ) → v ≤ variable_count → variables_from r v ≡ rest (seek_from spans v)
  rest_from v l = rest_seek v (variable_count - v) (omega arith)

  -- what is left of a variable's positions, and the variables after it
  rest_position : (v k : ℕ) → v < variable_count → positions_from spans sets v (k + 1) ++ variables_from r (v + 1) ≡ rest (after_position_lem spans v k)
  unfolding after_position_lem rest_at
  rest_position v k l = go (dec_lt (k + 1) count)
    where
      count : ℕ
      count = position_count_lem spans v

      after : Bool → List ℕ
      after more = rest (cond more (Some (Position v (k + 1))) (seek_from spans (v + 1)))

      go : Dec (k + 1 < count) → positions_from spans sets v (k + 1) ++ variables_from r (v + 1) ≡ after (ltb (k + 1) count)
      go (yes m) = ap after (sym (lt-ltb (k + 1) count m))
      go (no m) =
          let no_more : count - (k + 1) ≡ 0 = omega arith in
          let f : ℕ → List ℕ = λ i. symbols_line sets (first_position_lem spans v + i) in
          ap (λ n. upward (k + 1) n f ++ variables_from r (v + 1)) no_more ∙ rest_from (v + 1) (omega arith) ∙ ap after (sym (le-ltb (k + 1) count (omega arith)))

rest_first : (outcome : Result Degrees Why) (spans sets : List ℕ) → following outcome spans sets ≡ rest_at outcome spans sets (after_outcome_lem outcome spans)
unfolding after_outcome_lem rest_at
rest_first (Ok d) spans sets = rest_from (Ok d) spans sets 0 (omega arith)
rest_first (Err why) spans sets = refl

module _ (outcome : Result Degrees Why) (spans sets : List ℕ) where
  -- LAW: the line at a cursor, and then what is left at the next one
  pub rest_next : (cursor : Option Cursor) → OnLine spans cursor → rest_at outcome spans sets cursor ≡ line_at outcome spans sets cursor ++ rest_at outcome spans sets (next_cursor outcome spans cursor)
  unfolding line_at next_cursor rest_at
  rest_next (Some First) on = ap (λ t. outcome_line outcome ++ t) (rest_first outcome spans sets)
  rest_next (Some (Variable v)) on =
      let f = variable_lines (result_of outcome spans sets) in
      upward-first f v variable_count on.0
      ∙ ap (λ t. t ++ variables_from (result_of outcome spans sets) (v + 1)) (some_lines outcome spans sets v on.1)
      ∙ append_assoc (variable_line spans v) (positions_from spans sets v 0) (variables_from (result_of outcome spans sets) (v + 1))
  rest_next (Some (Position v k)) on =
      let f : ℕ → List ℕ = λ i. symbols_line sets (first_position_lem spans v + i) in
      ap (λ t. t ++ variables_from (result_of outcome spans sets) (v + 1)) (upward-first f k (position_count_lem spans v) on.1)
      ∙ append_assoc (f k) (positions_from spans sets v (k + 1)) (variables_from (result_of outcome spans sets) (v + 1))
      ∙ ap (λ t. f k ++ t) (rest_position outcome spans sets v k on.0)
  rest_next None on = refl

-- a refusal's line has its number and its place
refused_text_lem : (r : Matched) (g : Refusal) → refused_text (number_of g) (place_of g) ≡ text_of r (refused_as g)
refused_text_lem r (refusal n place) = refl

-- LAW: at the first line it is the whole text
pub rest_start : (outcome : Result Degrees Why) (spans sets : List ℕ) → rest_at outcome spans sets (Some First) ≡ text_in (result_of outcome spans sets)
unfolding rest_at outcome_line
rest_start (Ok d) spans sets = let r = result_of (Ok d) spans sets in ap (λ t. outcome_line (Ok d) ++ t) (sym (through-upward (variable_lines r) variable_count))
rest_start (Err why) spans sets = append-nil (outcome_line (Err why)) ∙ refused_text_lem (result_of (Err why) spans sets) (told why)

-- LAW: at the end it is nothing
pub rest_end : (outcome : Result Degrees Why) (spans sets : List ℕ) → rest_at outcome spans sets None ≡ []
unfolding rest_at
rest_end outcome spans sets = refl

-- ---- cursors stay on lines

seek_on : (spans : List ℕ) (v n : ℕ) → v + n ≡ variable_count → OnLine spans (seek_in spans v n)
unfolding seek_in
seek_on spans v zero e = tt
seek_on spans v (suc n) e = go (dec_lt 0 (position_count_lem spans v)) (seek_on spans (suc v) n (omega arith))
  where
    go : Dec (0 < position_count_lem spans v) → OnLine spans (seek_in spans (suc v) n) → OnLine spans (cond (eqb (position_count_lem spans v) 0) (seek_in spans (suc v) n) (Some (Variable v)))
    go (yes l) later = rw (ne_eqb (position_count_lem spans v) 0 (λ z. omega arith)) (omega arith, l)
    go (no l) later = rw (eq-eqb (position_count_lem spans v) 0 (omega arith)) later

on_first : (outcome : Result Degrees Why) (spans : List ℕ) → OnLine spans (after_outcome_lem outcome spans)
unfolding after_outcome_lem
on_first (Ok d) spans = seek_on spans 0 variable_count (omega arith)
on_first (Err why) spans = tt

on_position : (spans : List ℕ) (v k : ℕ) → v < variable_count → OnLine spans (after_position_lem spans v k)
unfolding after_position_lem
on_position spans v k l = go (dec_lt (k + 1) (position_count_lem spans v))
  where
    go : Dec (k + 1 < position_count_lem spans v) → OnLine spans (cond (ltb (k + 1) (position_count_lem spans v)) (Some (Position v (k + 1))) (seek_from spans (v + 1)))
    go (yes m) = rw (lt-ltb (k + 1) (position_count_lem spans v) m) (l, m)
    go (no m) = rw (le-ltb (k + 1) (position_count_lem spans v) (omega arith)) (seek_on spans (v + 1) (variable_count - (v + 1)) (omega arith))

-- LAW: the next cursor stands at a line, or at the end
pub on_next : (outcome : Result Degrees Why) (spans : List ℕ) (cursor : Option Cursor) → OnLine spans cursor → OnLine spans (next_cursor outcome spans cursor)
unfolding next_cursor
on_next outcome spans (Some First) on = on_first outcome spans
on_next outcome spans (Some (Variable v)) on = on
on_next outcome spans (Some (Position v k)) on = on_position spans v k on.0
on_next outcome spans None on = tt

-- ---- how many lines there are

pub nothing : (xs : List ℕ) → length xs ≤ 0 → xs ≡ []
nothing [] l = refl
nothing (x ∷ xs) l = absurd (omega arith)

ended : (cursor : Option Cursor) → Dec (cursor ≡ None)
ended (Some First) = no (λ e. let z : ◌≡◌ {A = ℕ} 0 1 = cc in omega arith)
ended (Some (Variable v)) = no (λ e. let z : ◌≡◌ {A = ℕ} 0 1 = cc in omega arith)
ended (Some (Position v k)) = no (λ e. let z : ◌≡◌ {A = ℕ} 0 1 = cc in omega arith)
ended None = yes refl

outcome_some : (outcome : Result Degrees Why) → 0 < length (outcome_line outcome)
unfolding outcome_line
outcome_some (Ok d) = line-some (match_word ∷ decimal d.lowest ∷ decimal d.highest ∷ [])
outcome_some (Err why) = line-some (refused_word ∷ decimal (number_of (told why)) ∷ decimal (place_of (told why)) ∷ [])

module _ (outcome : Result Degrees Why) (spans sets : List ℕ) where
  -- no line is empty
  some_byte : (cursor : Option Cursor) → (cursor ≡ None → ⊥) → 0 < length (line_at outcome spans sets cursor)
  unfolding line_at variable_line symbols_line
  some_byte (Some First) over = outcome_some outcome
  some_byte (Some (Variable v)) over = line-some (variable_word v ∷ decimal (position_count_lem spans v) ∷ decimal (own_lowest_lem spans v) ∷ decimal (own_highest_lem spans v) ∷ [])
  some_byte (Some (Position v k)) over = line-some (map decimal (collect set_room (holds sets (first_position_lem spans v + k))))
  some_byte None over = absurd (over refl)

  -- LAW: with each line less is left
  pub rest_falls : (cursor : Option Cursor) → OnLine spans cursor → (cursor ≡ None → ⊥)
      → length (rest_at outcome spans sets (next_cursor outcome spans cursor)) < length (rest_at outcome spans sets cursor)
  rest_falls cursor on over =
      let here = line_at outcome spans sets cursor in
      let left = rest_at outcome spans sets (next_cursor outcome spans cursor) in
      omega (arith, ap length (rest_next outcome spans sets cursor on), length-append here left, some_byte cursor over)

  -- LAW: nothing is left exactly at the end
  pub rest_over : (cursor : Option Cursor) → OnLine spans cursor → rest_at outcome spans sets cursor ≡ [] ↔ (cursor ≡ None)
  rest_over cursor on = ((λ e. go (ended cursor) e), (λ e. ap (rest_at outcome spans sets) e ∙ rest_end outcome spans sets))
    where
      go : Dec (cursor ≡ None) → rest_at outcome spans sets cursor ≡ [] → cursor ≡ None
      go (yes over) e = over
      go (no on_way) e = absurd (omega (arith, rest_falls cursor on on_way, ap length e))

  left : (cursor : Option Cursor) → OnLine spans cursor → (n : ℕ) → length (rest_at outcome spans sets cursor) ≤ suc n → length (rest_at outcome spans sets (next_cursor outcome spans cursor)) ≤ n
  unfolding next_cursor rest_at
  left cursor on n l = go (ended cursor)
    where
      go : Dec (cursor ≡ None) → length (rest_at outcome spans sets (next_cursor outcome spans cursor)) ≤ n
      go (yes over) = rw over (omega arith)
      go (no on_way) = omega (arith, rest_falls cursor on on_way)

  all_lines : (n : ℕ) (cursor : Option Cursor) → OnLine spans cursor → length (rest_at outcome spans sets cursor) ≤ n → lines_from outcome spans sets n cursor ≡ rest_at outcome spans sets cursor
  all_lines zero cursor on l = sym (nothing (rest_at outcome spans sets cursor) l)
  all_lines (suc n) cursor on l =
      ap (λ t. line_at outcome spans sets cursor ++ t) (all_lines n (next_cursor outcome spans cursor) (on_next outcome spans cursor on) (left cursor on n l))
      ∙ sym (rest_next outcome spans sets cursor on)

  -- THEOREM: the lines from the first on, one after the other, are the text. (Past the last line there are only empty ones.)
  pub lines_are_text : (n : ℕ) → length (text_in (result_of outcome spans sets)) ≤ n
      → lines_from outcome spans sets n (Some First) ≡ text_in (result_of outcome spans sets)
  lines_are_text n l = all_lines n (Some First) tt (omega (arith, ap length (rest_start outcome spans sets))) ∙ rest_start outcome spans sets
