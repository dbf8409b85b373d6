-- Answers that were saved when a set had four words. The converter makes of each set one of today: its words, and zeros in those that are new. Spans and
-- degrees stay as they are, so that it does not see them. What it answers and leaves in lent memory, and what is said of that; the proofs are in
-- proofs/Saved, proofs/AsToday and proofs/Widened.
use Rattle.std.specs.Prelude.{◌≡◌, ◌↔◌, List, [], ◌∷◌, ◌++◌, true, false, not, ℕ, ◌+◌, ◌-◌, ◌*◌, ◌/◌, ◌%◌, ◌≤◌, ◌<◌, eqb, length, get_or, take, drop}
use Rattle.std.proofs.Math.Option.{Option, none, some as just}
use Rattle.theory.specs.Tree.{Term, enc}
use Rattle.theory.specs.Table.{Table, Over}
use Rattle.theory.specs.Faces.{Face}
use Rattle.meaning.specs.Limits.{word_bits, set_words_lem, set_room}
use Rattle.meaning.specs.Refusals.{Refusal, Row, row, first, at0, row8-output}
use Rattle.meaning.specs.Packing.{through, order, sets_of, all_words_by}
use Rattle.meaning.specs.Calls.{Answer, refused, gives, unless, zeros}
use Rattle.meaning.specs.Buffers.{first_position_lem, position_count_lem, member, holds, DrawnFrom}
use Rattle.meaning.specs.Tables.{Wrote}

-- ---- what it writes

-- the words of a set then, and the symbols that it so had room for
abbrev pub saved_words : ℕ
saved_words = 4

abbrev pub saved_room : ℕ
saved_room = word_bits * saved_words

-- The words of the set that was saved at position p.
abbrev pub saved_set_lem : List ℕ → ℕ → List ℕ
saved_set_lem words p = take saved_words (drop (saved_words * p) words)

-- The same set with as many words as one has today.
abbrev pub widened_set : List ℕ → ℕ → List ℕ
widened_set words p = saved_set_lem words p ++ zeros (set_words_lem - saved_words)

-- Position by position.
unfoldable pub widened : List ℕ → List ℕ
widened words = through (length words / saved_words) (widened_set words)

-- ---- the call

-- 8, at 0: the words are not those of whole sets. (That the output is too short is the row of every call that writes.)
unfoldable pub row8-words : List ℕ → Row
row8-words words = row 8 (at0 (not (eqb (length words % saved_words) 0)))

module _ (words output : List ℕ) where
  unfoldable pub widen_rows : List Row
  widen_rows = row8-words words ∷ row8-output (2 * length words) output ∷ []

  -- how many words are written
  unfoldable pub widened_count : Answer ℕ
  widened_count = unless (first widen_rows) (2 * length words)

  abbrev pub replaced : Option Refusal → List ℕ
  replaced none = widened words ++ drop (2 * length words) output
  replaced (just r) = output

  unfoldable pub later_words : List ℕ
  later_words = replaced (first widen_rows)

  abbrev pub widen_call : Wrote
  widen_call = record { answer = widened_count; output = later_words }

-- ---- what is said of it

-- A term drawn from a saved answer, as one read it then.
pub record DrawnThen (T : Table) (spans words : List ℕ) (v : ℕ) (t : Term) : Type 0 where
  pub over : Over T t
  pub as_many : length (enc t) ≡ position_count_lem spans v
  pub symbols : (k : ℕ) → k < length (enc t) → member (saved_set_lem words (first_position_lem spans v + k)) (get_or (enc t) k 0) ≡ true

-- A refusal leaves the output. Else twice as many words are written as were saved, at the front of the output, and its rest stays. At each position one
-- reads the set that was saved there, and in it no symbol that had no room then; so the same terms are drawn from the answer as were before.
pub record Widens (words output : List ℕ) (r : Wrote) : Type 0 where
  pub refusal_leaves : (n place : ℕ) → r.answer ≡ refused n place → r.output ≡ output
  pub twice : (n : ℕ) → r.answer ≡ gives n → n ≡ 2 * length words
  pub front : (n : ℕ) → r.answer ≡ gives n → take n r.output ≡ widened words
  pub same_sets : (n : ℕ) → r.answer ≡ gives n → (p : ℕ) → saved_words * p < length words → (k : ℕ) → k < set_room
      → holds r.output p k ≡ member (saved_set_lem words p) k
  pub no_other : (n : ℕ) → r.answer ≡ gives n → (p : ℕ) → saved_words * p < length words → (k : ℕ) → saved_room ≤ k → k < set_room → holds r.output p k ≡ false
  pub same_terms : (n : ℕ) → r.answer ≡ gives n → (T : Table) → T.size ≤ set_room
      → (spans : List ℕ) (v : ℕ) → saved_words * (first_position_lem spans v + position_count_lem spans v) ≤ length words
      → (t : Term) → DrawnThen T spans words v t ↔ DrawnFrom T spans r.output v t
  pub rest_stays : (n : ℕ) → r.answer ≡ gives n → drop n r.output ≡ drop n output
  pub same_length : length r.output ≡ length output

-- What a match left then in sets for n positions: the same sets, four words to each, and zeros behind them.
unfoldable pub left_then : Table → ℕ → List Face → ℕ → List ℕ
left_then T cut fs n = let filled = all_words_by saved_words (sets_of T cut fs (order fs)) in filled ++ zeros (saved_words * n - length filled)
