-- Demand 2 allows the results of WrongPlaces, which is why more is said: a term over T has symbols below 8, and at one position demand 2 reads of a
-- set no more than those.
use mathlib.Core.Path.{◌≡◌, refl, sym as inv, ◌∙◌, subst}
use mathlib.Core.Logic.{◌↔◌, ◌⊎◌, inl, inr}
use mathlib.Core.List.{[], ◌∷◌, ◌++◌}
use mathlib.Core.Bool.{Bool, true, false, ◌||◌, not, cond, false≢true}
use Prim.Native.Nat.{ℕ, zero, suc, ◌+◌, ◌<◌}
use native.Mathlib.Omega.{arith}
use lib.Dec.{eqb}
use lib.ListN.{length, get_or}
use borrow.Author.Tests.{eqb-true}
use Rattle.theory.specs.Tree.{Term, node, Terms, enc, stands}
use Rattle.theory.specs.Table.{Over}
use Rattle.theory.specs.Least.{every}
use Rattle.theory.specs.Read.{walk, several}
use Rattle.theory.specs.Decode.{pattern_of, term_of, parse, parse_row}
use Rattle.theory.proofs.Lemmas.{every-at}
use Rattle.meaning.specs.File.{arities_in, pairs_in, table_in}
use Rattle.meaning.specs.Refusals.{row1_short, row1_offsets, row2, row3, row4, row5, row6, row7, row8, row9, row10, table_rows}
use Rattle.meaning.specs.Packing.{packed_count, packed_spans, packed_sets}
use Rattle.meaning.specs.Calls.{Matched, faces_in, input_rows, search_rows, match_rows, matched, later_spans, later_sets, match_call}
use Rattle.meaning.specs.Buffers.{first_position_lem, position_count_lem, holds, DrawnFrom}
use Rattle.meaning.specs.Demands.{Found, Decides, Demand2 as MatchOf}
use Rattle.meaning.proofs.Matched.{demand2}
use Rattle.meaning.proofs.Examples.{T}
use Rattle.demands.proofs.WrongPlaces.{pattern, heading, pattern_tree, writes_pattern, passed, gave, overlap, by_number, extra}
use Rattle.demands.proofs.Lent.{no_spans, no_sets, image}

-- the right result, and that demand 2 is met by it
abbrev right : Matched
right = gave (1 ∷ 1 ∷ 500 ∷ 1000 ∷ 0 ∷ 1 ∷ 500 ∷ 1000 ∷ []) (image 224 ++ image 224)

is_right : match_call T pattern heading 500 no_spans (no_sets 3) ≡ right
unfolding
    matched later_spans later_sets match_rows input_rows search_rows faces_in packed_count packed_spans packed_sets table_rows row1_short row1_offsets row2 row3 row4 row5 row6 row7 row8 row9 row10 table_in arities_in pairs_in
    pattern_of term_of parse parse_row walk several
is_right = refl

right_meets : MatchOf T pattern heading 500 right
right_meets = subst (MatchOf T pattern heading 500) is_right (demand2 T pattern heading 500 no_spans (no_sets 3) passed)

-- ---- results that one reads alike, as far as terms over T go

abbrev agree : Bool → Bool → Bool
agree a b = cond a b (not b)

agreed : (a b : Bool) → agree a b ≡ true → a ≡ b
agreed true true e = refl
agreed true false e = absurd (false≢true e)
agreed false true e = absurd (false≢true e)
agreed false false e = refl

-- variable v has one position in both, and the same symbols of T may stand there
pub record Alike (r s : Matched) (v : ℕ) : Type 0 where
  pub one : position_count_lem r.spans v ≡ 1
  pub other : position_count_lem s.spans v ≡ 1
  pub symbols : every 8 (λ x. agree (holds r.sets (first_position_lem r.spans v + 0) x) (holds s.sets (first_position_lem s.spans v + 0) x)) ≡ true

small : (f : ℕ) (ts : Terms) → Over (table_in T) (node f ts) → f < 8
unfolding table_in arities_in
small f ts o = o.0

drawn_alike : (r s : Matched) (v : ℕ) → Alike r s v → (t : Term) → DrawnFrom (table_in T) r.spans r.sets v t ↔ DrawnFrom (table_in T) s.spans s.sets v t
drawn_alike r s v a (node f ts) = (
  (λ d. record { over = d.over; as_many = d.as_many ∙ a.one ∙ inv a.other; symbols = there d }),
  (λ d. record { over = d.over; as_many = d.as_many ∙ a.other ∙ inv a.one; symbols = back d }),
)
  where
    at : f < 8 → holds r.sets (first_position_lem r.spans v + 0) f ≡ holds s.sets (first_position_lem s.spans v + 0) f
    at l =
        let b = holds r.sets (first_position_lem r.spans v + 0) in
        let c = holds s.sets (first_position_lem s.spans v + 0) in
        agreed (b f) (c f) (every-at 8 (λ x. agree (b x) (c x)) a.symbols f l)

    there : DrawnFrom (table_in T) r.spans r.sets v (node f ts) → (k : ℕ) → k < length (enc (node f ts)) → holds s.sets (first_position_lem s.spans v + k) (get_or (enc (node f ts)) k 0) ≡ true
    there d zero l = inv (at (small f ts d.over)) ∙ d.symbols 0 l
    there d (suc k) l = absurd (omega (arith, d.as_many, a.one))

    back : DrawnFrom (table_in T) s.spans s.sets v (node f ts) → (k : ℕ) → k < length (enc (node f ts)) → holds r.sets (first_position_lem r.spans v + k) (get_or (enc (node f ts)) k 0) ≡ true
    back d zero l = at (small f ts d.over) ∙ d.symbols 0 l
    back d (suc k) l = absurd (omega (arith, d.as_many, a.other))

-- x0 and x1 stand in the pattern
which : (v : ℕ) → stands v pattern_tree ≡ true → (v ≡ 0) ⊎ (v ≡ 1)
which v s = go (eqb v 1) refl (eqb v 0) refl s
  where
    go : (a : Bool) → eqb v 1 ≡ a → (b : Bool) → eqb v 0 ≡ b → (a || (b || false)) ≡ true → (v ≡ 0) ⊎ (v ≡ 1)
    go true q b e s = inr (eqb-true v 1 q)
    go false q true e s = inl (eqb-true v 0 e)
    go false q false e s = absurd (false≢true s)

-- the right answer, with other buffers
abbrev buffers : Matched → Matched
buffers r = record { answer = right.answer; spans = r.spans; sets = r.sets }

module _ (other : Matched) (x0 : Alike right other 0) (x1 : Alike right other 1) where
  abbrev r : Matched
  r = buffers other

  same : (v : ℕ) → stands v pattern_tree ≡ true → (t : Term) → DrawnFrom (table_in T) right.spans right.sets v t ↔ DrawnFrom (table_in T) r.spans r.sets v t
  same v s t = go (which v s)
    where
      go : (v ≡ 0) ⊎ (v ≡ 1) → DrawnFrom (table_in T) right.spans right.sets v t ↔ DrawnFrom (table_in T) r.spans r.sets v t
      go (inl e) = rw e (drawn_alike right other 0 x0 t)
      go (inr e) = rw e (drawn_alike right other 1 x1 t)

  found : (h : Term) → Found (table_in T) 500 pattern_tree h right → Found (table_in T) 500 pattern_tree h r
  found h f =
      record {
        lowest = f.lowest;
        highest = f.highest;
        answered = f.answered;
        is_lowest = f.is_lowest;
        is_highest = f.is_highest;
        matchers = λ σ. ((λ m v s. (same v s (σ v)).0 ((f.matchers σ).0 m v s)), (λ d. (f.matchers σ).1 (λ v s. (same v s (σ v)).1 (d v s))));
      }

  decides : (h : Term) → Decides (table_in T) 500 pattern_tree h right → Decides (table_in T) 500 pattern_tree h r
  decides h d = record { no_match = d.no_match; otherwise = λ k. found h (d.otherwise k) }

  allowed : MatchOf T pattern heading 500 r
  allowed =
      let m = right_meets in
      let e : pattern_tree ≡ m.p = m.writes_pattern.only pattern_tree writes_pattern in
      record {
        p = m.p;
        h = m.h;
        writes_pattern = m.writes_pattern;
        writes_heading = m.writes_heading;
        decides = subst (λ q. Decides (table_in T) 500 q m.h r) e (decides m.h (subst (λ q. Decides (table_in T) 500 q m.h right) (inv e) m.decides));
      }

-- THEOREM: demand 2 allows variables packed over one another, variables packed by their numbers, and a number that is no symbol
pub all_allowed : MatchOf T pattern heading 500 overlap × MatchOf T pattern heading 500 by_number × MatchOf T pattern heading 500 extra
unfolding holds
all_allowed = (
  allowed overlap (record { one = refl; other = refl; symbols = refl }) (record { one = refl; other = refl; symbols = refl }),
  allowed by_number (record { one = refl; other = refl; symbols = refl }) (record { one = refl; other = refl; symbols = refl }),
  allowed extra (record { one = refl; other = refl; symbols = refl }) (record { one = refl; other = refl; symbols = refl }),
)
