-- Wrong results that fail at what is said of places and of sets: two variables packed over one another, with rubbish left behind them; variables
-- packed by their numbers; a set with a number in it that is no symbol. The pattern is 0(x1, x0) and the heading 0(5, 5), at 500: x1 comes first, each
-- has one position, and {5, 6, 7} may stand there.
use mathlib.Core.Path.{◌≡◌, refl, ap, ◌∙◌, subst}
use mathlib.Core.List.{List, [], ◌∷◌, ◌++◌}
use mathlib.Core.Bool.{true}
use Prim.Native.Nat.{ℕ, zero, suc, ◌+◌, ◌*◌, ◌<◌}
use native.Mathlib.Omega.{arith}
use lib.Dec.{lit<}
use lib.Seq.{get_or-append-add}
use lib.ListN.{length, get_or, replicate}
use Rattle.theory.specs.Tree.{Term, node, ∅, ◌▹◌, Pattern, var, sym, ∅ₚ, ◌▸◌}
use Rattle.theory.specs.Read.{walk, several}
use Rattle.meaning.specs.Limits.{set_words_lem, set_room, span_width}
use Rattle.meaning.specs.File.{arities_in, pairs_in, table_in}
use Rattle.meaning.specs.Refusals.{row1_short, row1_offsets, row2, row3, row4, row5, row6, row7, row8, table_rows}
use Rattle.meaning.specs.Calls.{gives, degrees, Matched, zeros, input_rows}
use Rattle.meaning.specs.Buffers.{first_position_lem, position_count_lem, holds}
use Rattle.meaning.specs.Demands.{WritesTerm, WritesPattern, Accepted}
use Rattle.meaning.specs.Matching.{InSpan}
use Rattle.meaning.proofs.Bits.{get_or_zeros}
use Rattle.meaning.proofs.Examples.{T}
use Rattle.demands.specs.Program.{Program}
use Rattle.demands.specs.Demand1.{Demand1}
use Rattle.demands.specs.Further.{MatchSays, Further}
use Rattle.demands.proofs.Lent.{no_spans, no_sets, image}

-- ---- the question

abbrev pub pattern : List ℕ
pattern = 0 ∷ 32769 ∷ 32768 ∷ []

abbrev pub heading : List ℕ
heading = 0 ∷ 5 ∷ 5 ∷ []

abbrev pub pattern_tree : Pattern
pattern_tree = sym 0 (var 1 ▸ (var 0 ▸ ∅ₚ))

abbrev pub heading_tree : Term
heading_tree = node 0 (node 5 ∅ ▹ (node 5 ∅ ▹ ∅))

pub writes_pattern : WritesPattern (table_in T) pattern pattern_tree
unfolding table_in arities_in
writes_pattern = record { fine = (lit< tt, refl, ((refl, lit< tt), ((refl, lit< tt), tt))); is = refl }

pub writes_heading : WritesTerm (table_in T) heading heading_tree
unfolding table_in arities_in
writes_heading = record { over = (lit< tt, refl, ((lit< tt, refl, tt), ((lit< tt, refl, tt), tt))); is = refl }

pub passed : Accepted T pattern heading 500 no_spans (no_sets 3)
unfolding input_rows table_rows row1_short row1_offsets row2 row3 row4 row5 row6 row7 row8 table_in arities_in pairs_in walk several
passed = refl

-- an answer with these spans and these words in front
abbrev pub gave : List ℕ → List ℕ → Matched
gave spans words = record { answer = gives (degrees 500 1000); spans = spans ++ zeros 120; sets = words ++ no_sets 1 }

-- ---- what a program that meets the statements gives

module _ (P : Program) where
  abbrev pub given : Matched
  given = P.match T pattern heading 500 no_spans (no_sets 3)

  module _ (f : Further P) (answers : given.answer ≡ gives (degrees 500 1000)) where
    says : MatchSays (table_in T) 500 pattern_tree heading_tree pattern given
    says = f.matches T pattern heading 500 no_spans (no_sets 3) passed pattern_tree writes_pattern heading_tree writes_heading

    -- x1 starts at 0, and x0 where x1 ends
    first_start : first_position_lem given.spans 1 ≡ 0
    first_start = (says.packed (degrees 500 1000) answers).starts 1 refl

    second_start : first_position_lem given.spans 0 ≡ position_count_lem given.spans 1 + 0
    second_start = (says.packed (degrees 500 1000) answers).starts 0 refl

    -- every number in the first set is a symbol
    symbols : (s : ℕ) → s < set_room → 0 < position_count_lem given.spans 1 → holds given.sets (first_position_lem given.spans 1 + 0) s ≡ true → s < 8
    unfolding table_in arities_in
    symbols s l m e = (((says.sets_and_degrees 500 1000 answers).sets 1 refl 0 m s l).0 e).0

-- ---- two variables at position 0, and rubbish at position 1

abbrev pub overlap : Matched
overlap = gave (0 ∷ 1 ∷ 500 ∷ 1000 ∷ 0 ∷ 1 ∷ 500 ∷ 1000 ∷ []) (image 224 ++ replicate set_words_lem 7)

-- THEOREM: it fails where the starts are spoken of (`PackedInOrder.starts`)
pub overlap_fails : (P : Program) → given P ≡ overlap → Further P → ⊥
overlap_fails P w f =
    omega (arith, second_start P f (ap (λ r. r.answer) w), ap (λ r. first_position_lem r.spans 0) w, ap (λ r. position_count_lem r.spans 1) w)

-- no variable reaches position 1
behind : (v : ℕ) → InSpan overlap.spans v 1 → ⊥
behind zero m = omega (arith, m.1)
behind (suc zero) m = omega (arith, m.1)
behind (suc (suc v)) m = omega (arith, m.1, none-at (span_width * suc (suc v)) (span_width * v) (omega arith), none-at (span_width * suc (suc v) + 1) (span_width * v + 1) (omega arith))
  where
    front : List ℕ
    front = 0 ∷ 1 ∷ 500 ∷ 1000 ∷ 0 ∷ 1 ∷ 500 ∷ 1000 ∷ []

    none-at : (i j : ℕ) → i ≡ length front + j → get_or overlap.spans i 0 ≡ 0
    none-at i j e = ap (λ i. get_or overlap.spans i 0) e ∙ get_or-append-add front (zeros 120) j 0 ∙ get_or_zeros 120 j

-- THEOREM: and where all other words are (`Leaves.other_sets`)
pub rubbish_fails : (P : Program) → given P ≡ overlap → Demand1 P → ⊥
rubbish_fails P w d =
    let l = d.match_leaves T pattern heading 500 no_spans (no_sets 3) in
    let z = l.other_sets (degrees 500 1000) (ap (λ r. r.answer) w) set_words_lem (λ v b m. behind v (subst (λ r. InSpan r.spans v 1) w m)) in
    omega (arith, z, ap (λ r. get_or r.sets set_words_lem 0) w)

-- ---- x0 before x1

abbrev pub by_number : Matched
by_number = gave (0 ∷ 1 ∷ 500 ∷ 1000 ∷ 1 ∷ 1 ∷ 500 ∷ 1000 ∷ []) (image 224 ++ image 224)

-- THEOREM: it fails where the starts are spoken of (`PackedInOrder.starts`)
pub by_number_fails : (P : Program) → given P ≡ by_number → Further P → ⊥
by_number_fails P w f = omega (arith, first_start P f (ap (λ r. r.answer) w), ap (λ r. first_position_lem r.spans 1) w)

-- ---- 8, which is no symbol of T, in x1's set

abbrev pub extra : Matched
extra = gave (1 ∷ 1 ∷ 500 ∷ 1000 ∷ 0 ∷ 1 ∷ 500 ∷ 1000 ∷ []) (image 480 ++ image 224)

-- THEOREM: it fails where the sets are spoken of (`SetsAndDegrees.sets`)
pub extra_fails : (P : Program) → given P ≡ extra → Further P → ⊥
unfolding holds
extra_fails P w f =
    omega (arith, symbols P f (ap (λ r. r.answer) w) 8 (lit< tt) (omega (arith, ap (λ r. position_count_lem r.spans 1) w)) (ap (λ r. holds r.sets (first_position_lem r.spans 1 + 0) 8) w))
