-- Refusals as rows: a row has its number and gives a place or nothing; a call is refused by the first of its rows that gives a place.
-- The rows stand below in the order of document 01's table, so that each can be held against its line there.
use Rattle.std.specs.Prelude.{◌≡◌, List, [], ◌∷◌, Bool, false, ◌&&◌, ◌||◌, not, cond, ℕ, zero, suc, ◌+◌, ◌*◌, ◌<◌, eqb, ltb, length, get_or}
use Rattle.std.proofs.Math.Option.{Option, none, some as just}
use Rattle.theory.specs.Tree.{Term, Pattern}
use Rattle.theory.specs.Table.{Table}
use Rattle.theory.specs.Faces.{faces}
use Rattle.theory.specs.Match.{clash}
use Rattle.theory.specs.Least.{least_below}
use Rattle.theory.specs.Verdict.{lacking}
use Rattle.theory.specs.Read.{Reading, whole, faulty, reading}
use Rattle.theory.specs.Pairs.{Pair, pair, listed_top}
use Rattle.meaning.specs.Limits.{set_words_lem, most_symbols, most_pairs, most_arguments, variable_count, span_width}
use Rattle.meaning.specs.File.{number, symbol_count_lem, pair_count_lem, arities_offset, pairs_offset, total_field, pairs_at_lem, total, arities_in, pairs_in}

-- A refusal: its number and its place.
pub data Refusal : Type 0 where
  refusal : ℕ → ℕ → Refusal

abbrev pub number_of : Refusal → ℕ
number_of (refusal n place) = n

abbrev pub place_of : Refusal → ℕ
place_of (refusal n place) = place

-- A row: its number, and the place where it holds, if it does.
pub data Row : Type 0 where
  row : ℕ → Option ℕ → Row

abbrev pub row_number : Row → ℕ
row_number (row n o) = n

abbrev pub row_place : Row → Option ℕ
row_place (row n o) = o

-- The refusal that a call's rows give, in the order tested: that of the first row which holds.
abbrev pub first : List Row → Option Refusal
first [] = none
first (row n (just place) ∷ rows) = just (refusal n place)
first (row n none ∷ rows) = first rows

-- The row at some index has number n and holds at that place, and no row before it holds.
pub record Given (rows : List Row) (n place : ℕ) : Type 0 where
  pub index : ℕ
  pub inside : index < length rows
  pub holds : get_or rows index (row 0 none) ≡ row n (just place)
  pub none_before : (k : ℕ) → k < index → (m : ℕ) × (get_or rows k (row 0 none) ≡ row m none)

-- ---- places

-- Place 0 where the test holds.
abbrev pub at0 : Bool → Option ℕ
at0 b = cond b (just 0) none

-- n is outside low to high
abbrev pub outside : ℕ → ℕ → ℕ → Bool
outside low high n = ltb n low || ltb high n

-- the place of a list's first fault
abbrev pub fault_of : Reading → Option ℕ
fault_of whole = none
fault_of (faulty place) = just place

-- ---- document 01's table, row by row

-- 1, at 0: the file has no whole header.
unfoldable pub row1_short : List ℕ → Row
row1_short file = row 1 (at0 (ltb (length file) 10))

-- 1, at 0, tested once 2 has passed: an offset or the total is not what the counts ask for, or the total is not the length lent.
abbrev pub misplaced : List ℕ → Bool
misplaced file =
    not (eqb (arities_offset file) 10)
    || not (eqb (pairs_offset file) (pairs_at_lem (symbol_count_lem file)))
    || not (eqb (total_field file) (total (symbol_count_lem file) (pair_count_lem file)))
    || not (eqb (total_field file) (length file))

unfoldable pub row1_offsets : List ℕ → Row
row1_offsets file = row 1 (at0 (misplaced file))

-- 2, at 0: no symbols or too many, or too many pairs.
unfoldable pub row2 : ℕ → ℕ → Row
row2 s p = row 2 (at0 (outside 1 most_symbols s || outside 0 most_pairs p))

-- 3, at the first symbol whose arity is too high.
unfoldable pub row3 : List ℕ → Row
row3 arities = row 3 (least_below (length arities) (λ a. ltb most_arguments (get_or arities a 0)))

-- the pair may not be listed: its symbols are not rising, or one is none of the table's, or their arities differ, or its degree is out of range
abbrev pub unsound : List ℕ → Pair → Bool
unsound arities (pair lower higher degree) =
    not (ltb lower higher)
    || not (ltb higher (length arities))
    || not (eqb (get_or arities lower 0) (get_or arities higher 0))
    || outside 1 listed_top degree

-- the second pair may stand after the first: its lower symbol is higher, or that is the same and its higher one is higher
abbrev pub rises : Pair → Pair → Bool
rises (pair l h d) (pair l' h' d') = ltb l l' || (eqb l l' && ltb h h')

-- pair k does not rise from the one before it
abbrev pub unordered : List Pair → ℕ → Bool
unordered pairs zero = false
unordered pairs (suc k) = not (rises (get_or pairs k (pair 0 0 0)) (get_or pairs (suc k) (pair 0 0 0)))

-- 4, at the first pair that may not be listed or does not rise; pairs are counted from 0.
abbrev pub bad_pair_lem : List ℕ → List Pair → ℕ → Bool
bad_pair_lem arities pairs k = unsound arities (get_or pairs k (pair 0 0 0)) || unordered pairs k

unfoldable pub row4 : List ℕ → List Pair → Row
row4 arities pairs = row 4 (least_below (length pairs) (bad_pair_lem arities pairs))

-- 5, at 0: the cut is no degree above 0.
unfoldable pub row5 : ℕ → Row
row5 cut = row 5 (at0 (outside 1 1000 cut))

-- 6, at the first fault: the pattern is no term. (Variables are permitted in a pattern, and not in the first of two headings.)
unfoldable pub row6 : Table → Bool → List ℕ → Row
row6 T vars pattern = row 6 (fault_of (reading T vars pattern))

-- 7, at the first fault: the heading is no term without variables.
unfoldable pub row7 : Table → List ℕ → Row
row7 T heading = row 7 (fault_of (reading T false heading))

-- 8, at 0: spans have no room for every variable's, or sets none for as many positions as the heading has nodes.
unfoldable pub row8 : List ℕ → List ℕ → List ℕ → Row
row8 heading spans sets = row 8 (at0 (ltb (length spans) (span_width * variable_count) || ltb (length sets) (set_words_lem * length heading)))

-- 8 of a call that writes, at 0: the output is shorter than what is to be written.
unfoldable pub row8-output : ℕ → List ℕ → Row
row8-output n output = row 8 (at0 (ltb (length output) n))

-- 9, at the pattern's first node, in preorder, whose symbol is not near enough to the symbol that faces it.
unfoldable pub row9 : Table → ℕ → Pattern → Term → Row
row9 T cut p h = row 9 (clash T cut (faces p h))

-- 10, at the least variable that no one term can stand for: none is near enough to every subterm that faces the variable.
unfoldable pub row10 : Table → ℕ → Pattern → Term → Row
row10 T cut p h = row 10 (least_below variable_count (lacking T cut p h))

-- 12 of the asking program, at 0, before all others: the question file is too short or too long, an offset is not where the counts of
-- nodes put it, the total is not the length, or the table would begin past the end.
abbrev pub misshapen : List ℕ → ℕ → ℕ → Bool
misshapen input m n =
    ltb 65535 (length input)
    || ltb (length input) 14
    || not (eqb (number input 6) 14)
    || not (eqb (number input 8) (14 + 2 * m))
    || not (eqb (number input 10) (14 + 2 * m + 2 * n))
    || not (eqb (number input 12) (length input))
    || ltb (number input 12) (number input 10)

unfoldable pub row12 : List ℕ → Row
row12 input = row 12 (at0 (misshapen input (number input 2) (number input 4)))

-- 13 of the degree of two symbol numbers, after 4: the table has no symbol a, and that is told at 0; or else it has no symbol b, told at 1.
unfoldable pub row13 : ℕ → ℕ → ℕ → Row
row13 s a b = row 13 (cond (not (ltb a s)) (just 0) (cond (not (ltb b s)) (just 1) none))

-- 14 of reading back, at 0, after 4: there is no such symbol or pair.
unfoldable pub row14 : ℕ → ℕ → Row
row14 index count = row 14 (at0 (not (ltb index count)))

-- ---- rows that calls share

-- Is this a table: 1 to 4, of which 1 is tested before and after 2.
unfoldable pub table_rows : List ℕ → List Row
table_rows file =
    row1_short file
    ∷ row2 (symbol_count_lem file) (pair_count_lem file)
    ∷ row1_offsets file
    ∷ row3 (arities_in file)
    ∷ row4 (arities_in file) (pairs_in file)
    ∷ []

-- A file that none of them refuses.
abbrev pub SoundFile : List ℕ → Type 0
SoundFile file = first (table_rows file) ≡ none
