-- Wrong results that fail at what is said of each variable's own degrees: the pattern's symbols mixed in, all variables taken together, lowest and
-- highest exchanged. The pattern is 0(1(x0), x1) and the heading 0(3(6), 5), at 600: 1 faces 3 with 600; 6 and 7 may stand for x0, with 1000 and 800,
-- 5 and 7 for x1, with 1000 and 700. There is one own lowest and one own highest degree, so that no result has others than the meaning's.
use mathlib.Core.Path.{◌≡◌, refl, ap}
use mathlib.Core.List.{List, [], ◌∷◌, ◌++◌}
use Prim.Native.Nat.{ℕ}
use native.Mathlib.Omega.{arith}
use lib.Dec.{lit<}
use Rattle.theory.specs.Tree.{Term, node, ∅, ◌▹◌, Pattern, var, sym, ∅ₚ, ◌▸◌}
use Rattle.theory.specs.Read.{walk, several}
use Rattle.theory.specs.Decode.{pattern_of, term_of, parse, parse_row}
use Rattle.theory.proofs.Own.{one_lowest_for, one_highest_for}
use Rattle.meaning.specs.File.{arities_in, pairs_in, table_in}
use Rattle.meaning.specs.Refusals.{row1_short, row1_offsets, row2, row3, row4, row5, row6, row7, row8, row9, row10, table_rows}
use Rattle.meaning.specs.Packing.{packed_count, packed_spans, packed_sets}
use Rattle.meaning.specs.Calls.{gives, degrees, Matched, zeros, faces_in, input_rows, search_rows, match_rows, matched, later_spans, later_sets, match_call}
use Rattle.meaning.specs.Buffers.{own_lowest_lem, own_highest_lem}
use Rattle.meaning.specs.Demands.{WritesTerm, WritesPattern, Accepted}
use Rattle.meaning.specs.Matching.{VariableDegrees}
use Rattle.meaning.proofs.Examples.{T}
use Rattle.demands.specs.Program.{Program}
use Rattle.demands.specs.Further.{Further}
use Rattle.demands.proofs.Further.{says}
use Rattle.demands.proofs.Lent.{no_spans, no_sets, image}

-- ---- the question

abbrev pattern : List ℕ
pattern = 0 ∷ 1 ∷ 32768 ∷ 32769 ∷ []

abbrev heading : List ℕ
heading = 0 ∷ 3 ∷ 6 ∷ 5 ∷ []

abbrev pattern_tree : Pattern
pattern_tree = sym 0 (sym 1 (var 0 ▸ ∅ₚ) ▸ (var 1 ▸ ∅ₚ))

abbrev heading_tree : Term
heading_tree = node 0 (node 3 (node 6 ∅ ▹ ∅) ▹ (node 5 ∅ ▹ ∅))

writes_pattern : WritesPattern (table_in T) pattern pattern_tree
unfolding table_in arities_in
writes_pattern = record { fine = (lit< tt, refl, ((lit< tt, refl, ((refl, lit< tt), tt)), ((refl, lit< tt), tt))); is = refl }

writes_heading : WritesTerm (table_in T) heading heading_tree
unfolding table_in arities_in
writes_heading = record { over = (lit< tt, refl, ((lit< tt, refl, ((lit< tt, refl, tt), tt)), ((lit< tt, refl, tt), tt))); is = refl }

passed : Accepted T pattern heading 600 no_spans (no_sets 4)
unfolding input_rows table_rows row1_short row1_offsets row2 row3 row4 row5 row6 row7 row8 table_in arities_in pairs_in walk several
passed = refl

-- an answer with these own degrees of x0 and of x1, and all else as it should be
abbrev gave : ℕ → ℕ → ℕ → ℕ → Matched
gave low₀ high₀ low₁ high₁ =
    record {
      answer = gives (degrees 600 600);
      spans = (0 ∷ 1 ∷ low₀ ∷ high₀ ∷ 1 ∷ 1 ∷ low₁ ∷ high₁ ∷ []) ++ zeros 120;
      sets = image 192 ++ image 160 ++ no_sets 2;
    }

right : match_call T pattern heading 600 no_spans (no_sets 4) ≡ gave 800 1000 700 1000
unfolding
    matched later_spans later_sets match_rows input_rows search_rows faces_in packed_count packed_spans packed_sets table_rows row1_short row1_offsets row2 row3 row4 row5 row6 row7 row8 row9 row10 table_in arities_in pairs_in
    pattern_of term_of parse parse_row walk several
right = refl

-- ---- what a program that meets the statements gives

module _ (P : Program) where
  abbrev given : Matched
  given = P.match T pattern heading 600 no_spans (no_sets 4)

  own_degrees : Further P → given.answer ≡ gives (degrees 600 600) → VariableDegrees (table_in T) 600 pattern_tree heading_tree given 600 600
  own_degrees f = (f.matches T pattern heading 600 no_spans (no_sets 4) passed pattern_tree writes_pattern heading_tree writes_heading).own_degrees 600 600

meant_degrees : VariableDegrees (table_in T) 600 pattern_tree heading_tree (match_call T pattern heading 600 no_spans (no_sets 4)) 600 600
meant_degrees = (says T pattern heading 600 no_spans (no_sets 4) passed pattern_tree writes_pattern heading_tree writes_heading).own_degrees 600 600 (ap (λ r. r.answer) right)

module _ (P : Program) (f : Further P) (low₀ high₀ low₁ high₁ : ℕ) (w : given P ≡ gave low₀ high₀ low₁ high₁) where
  -- LAW: x0's own degrees are 800 and 1000
  own_lowest_lem-is : low₀ ≡ 800
  own_lowest_lem-is =
      let d = own_degrees P f (ap (λ r. r.answer) w) in
      let e = one_lowest_for (table_in T) 600 pattern_tree heading_tree 0 _ _ (d.own_lowest_lem-is 0 refl) (meant_degrees.own_lowest_lem-is 0 refl) in
      omega (arith, e, ap (λ r. own_lowest_lem r.spans 0) w, ap (λ r. own_lowest_lem r.spans 0) right)

  own_highest_lem-is : high₀ ≡ 1000
  own_highest_lem-is =
      let d = own_degrees P f (ap (λ r. r.answer) w) in
      let e = one_highest_for (table_in T) 600 pattern_tree heading_tree 0 _ _ (d.own_highest_lem-is 0 refl) (meant_degrees.own_highest_lem-is 0 refl) in
      omega (arith, e, ap (λ r. own_highest_lem r.spans 0) w, ap (λ r. own_highest_lem r.spans 0) right)

-- ---- wrong programs

-- THEOREM: the pattern's symbols mixed in: it fails where the highest is spoken of (`VariableDegrees.own_highest_lem-is`)
pub mixed_in_fails : (P : Program) → given P ≡ gave 600 600 600 600 → Further P → ⊥
mixed_in_fails P w f = omega (arith, own_highest_lem-is P f 600 600 600 600 w)

-- THEOREM: taken over all variables: it fails where the lowest is spoken of (`VariableDegrees.own_lowest_lem-is`)
pub over_all_fails : (P : Program) → given P ≡ gave 700 1000 700 1000 → Further P → ⊥
over_all_fails P w f = omega (arith, own_lowest_lem-is P f 700 1000 700 1000 w)

-- THEOREM: exchanged: it fails where the lowest is spoken of
pub exchanged_fails : (P : Program) → given P ≡ gave 1000 800 1000 700 → Further P → ⊥
exchanged_fails P w f = omega (arith, own_lowest_lem-is P f 1000 800 1000 700 w)
