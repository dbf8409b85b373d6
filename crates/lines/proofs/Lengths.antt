-- No line has more bytes than there is room for: a number has at most five digits, and a set has no more symbols than it has room for. So an answer
-- has at most as many bytes as all its lines have room for.
use mathlib.Core.Path.{ap}
use mathlib.Core.List.{List, [], ◌∷◌, ◌++◌, map}
use mathlib.Core.Bool.{Bool, true, false, cond}
use Prim.Native.Nat.{ℕ, zero, suc, ◌+◌, ◌-◌, ◌*◌, ◌/◌, ◌%◌, ◌≤◌, ◌<◌}
use native.Mathlib.Nat.{suc-mul}
use native.Mathlib.Decide.{dec_lt}
use native.Mathlib.Omega.{arith}
use lib.Dec.{ltb}
use lib.ListN.{length, length-append}
use Rattle.theory.specs.Least.{collect}
use Rattle.meaning.specs.Limits.{set_room, variable_count}
use Rattle.meaning.specs.Buffers.{first_position_lem, position_count_lem, own_lowest_lem, own_highest_lem, holds}
use Rattle.meaning.specs.Refusals.{number_of, place_of}
use Rattle.meaning.specs.Program.{digits, decimal, line, match_word, refused_word, variable_word, variable_lines}
use Rattle.std.specs.Prelude.{Result, Ok, Err}
use Rattle.refusal.specs.declared.Degrees.{Degrees}
use Rattle.refusal.specs.declared.Refusal.{Refusal}
use Rattle.refusal.specs.Told.{told}
use Rattle.refusal.specs.Outcomes.{result_of}
use Rattle.lines.specs.Lines.{line_room, text_in, outcome_line, variable_line, symbols_line, upward, following, positions_from, rest_at}
use Rattle.lines.specs.Spans.{Spanned}
use Rattle.lines.specs.Lengths.{most_positions, most_sets, most_text}
use Rattle.lines.proofs.Rest.{some_lines, no_lines, rest_start}

-- ---- one line

-- LAW: no more digits than are allowed
pub digits_short : (k n : ℕ) (text : List ℕ) → length (digits k n text) ≤ k + length text
digits_short zero n text = omega arith
digits_short (suc k) n text = go (ltb n 10) (digits_short k (n / 10) ((48 + n % 10) ∷ text))
  where
    more : List ℕ
    more = digits k (n / 10) ((48 + n % 10) ∷ text)

    go : (low : Bool) → length more ≤ k + suc (length text) → length (cond low ((48 + n) ∷ text) more) ≤ suc k + length text
    go true l = omega arith
    go false l = omega arith

decimal_short : (n : ℕ) → length (decimal n) ≤ 5
decimal_short n = digits_short 5 n []

abbrev total : List (List ℕ) → ℕ
total [] = 0
total (f ∷ fs) = length f + total fs

line_short : (fs : List (List ℕ)) → length (line fs) ≤ total fs + length fs + 1
line_short [] = omega arith
line_short (f ∷ []) = omega (arith, length-append f (10 ∷ []))
line_short (f ∷ g ∷ fs) = omega (arith, length-append f (32 ∷ line (g ∷ fs)), line_short (g ∷ fs))

outcome_short : (outcome : Result Degrees Refusal) → length (outcome_line outcome) ≤ line_room
unfolding outcome_line
outcome_short (Ok d) = omega (arith, line_short (match_word ∷ decimal d.lowest ∷ decimal d.highest ∷ []), decimal_short d.lowest, decimal_short d.highest)
outcome_short (Err why) =
    let n = number_of (told why) in
    let place = place_of (told why) in
    omega (arith, line_short (refused_word ∷ decimal n ∷ decimal place ∷ []), decimal_short n, decimal_short place)

variable_short : (spans : List ℕ) (v : ℕ) → length (variable_line spans v) ≤ line_room
unfolding variable_line
variable_short spans v =
    let count = position_count_lem spans v in
    let low = own_lowest_lem spans v in
    let high = own_highest_lem spans v in
    omega (arith, line_short (variable_word v ∷ decimal count ∷ decimal low ∷ decimal high ∷ []), decimal_short v, decimal_short count, decimal_short low, decimal_short high)

numbers_short : (xs : List ℕ) → total (map decimal xs) + length (map decimal xs) ≤ 6 * length xs
numbers_short [] = omega arith
numbers_short (x ∷ xs) = omega (arith, decimal_short x, numbers_short xs)

collect_few : (n : ℕ) (b : ℕ → Bool) → length (collect n b) ≤ n
collect_few zero b = omega arith
collect_few (suc n) b = go (b n) (collect_few n b)
  where
    go : (here : Bool) → length (collect n b) ≤ n → length (collect n b ++ cond here (n ∷ []) []) ≤ suc n
    go true l = omega (arith, length-append (collect n b) (n ∷ []))
    go false l = omega (arith, length-append (collect n b) [])

symbols_short : (sets : List ℕ) (p : ℕ) → length (symbols_line sets p) ≤ line_room
unfolding symbols_line
symbols_short sets p =
    let xs = collect set_room (holds sets p) in
    omega (arith, line_short (map decimal xs), numbers_short xs, collect_few set_room (holds sets p))

-- ---- all lines

upward_short : (f : ℕ → List ℕ) (b i n : ℕ) → ((j : ℕ) → j < i + n → length (f j) ≤ b) → length (upward i n f) ≤ n * b
upward_short f b i zero short = omega arith
upward_short f b i (suc n) short =
    omega (arith, length-append (f i) (upward (suc i) n f), short i (omega arith), upward_short f b (suc i) n (λ j l. short j (omega arith)), suc-mul n b)

module _ (outcome : Result Degrees Refusal) (spans sets : List ℕ) (spanned : Spanned spans sets) (few : length sets ≤ most_sets) where
  lines_short : (v : ℕ) → v < variable_count → length (variable_lines (result_of outcome spans sets) v) ≤ line_room * (1 + most_positions)
  lines_short v l = go (dec_lt 0 (position_count_lem spans v))
    where
      go : Dec (0 < position_count_lem spans v) → length (variable_lines (result_of outcome spans sets) v) ≤ line_room * (1 + most_positions)
      go (yes m) =
          let own = variable_line spans v in
          let rest = positions_from spans sets v 0 in
          let each = upward_short (λ k. symbols_line sets (first_position_lem spans v + k)) line_room 0 (position_count_lem spans v - 0) (λ k n. symbols_short sets (first_position_lem spans v + k)) in
          omega (arith, ap length (some_lines outcome spans sets v m), length-append own rest, variable_short spans v, each, spanned.sets_there v l)
      go (no m) = omega (arith, ap length (no_lines outcome spans sets v (omega arith)))

-- LAW: no answer is longer
pub text_short : (outcome : Result Degrees Refusal) (spans sets : List ℕ) → Spanned spans sets → length sets ≤ most_sets → length (text_in (result_of outcome spans sets)) ≤ most_text
unfolding rest_at
text_short (Ok d) spans sets spanned few =
    let r = result_of (Ok d) spans sets in
    let own = outcome_line (Ok d) in
    let rest = following (Ok d) spans sets in
    let all = upward_short (variable_lines r) (line_room * (1 + most_positions)) 0 variable_count (λ v l. lines_short (Ok d) spans sets spanned few v (omega arith)) in
    omega (arith, ap length (rest_start (Ok d) spans sets), length-append own rest, outcome_short (Ok d), all)
text_short (Err why) spans sets spanned few =
    omega (arith, ap length (rest_start (Err why) spans sets), length-append (outcome_line (Err why)) [], outcome_short (Err why))
