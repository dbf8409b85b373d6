-- A wrong program that fails where the spans of absent variables are spoken of: wherever it answers, it gives variable 31 a first position and a
-- count, though it does not stand in the pattern. Demands 2 and 3 allow it, since no matcher is drawn from an absent variable's sets and both
-- cuts are spoiled alike.
use mathlib.Core.Path.{◌≡◌, refl, sym as inv, ap, ◌∙◌, subst}
use mathlib.Core.List.{List}
use mathlib.Core.Bool.{Bool, true, false, false≢true}
use Prim.Native.Nat.{ℕ, ◌+◌, ◌*◌, ◌≤◌}
use native.Mathlib.Omega.{arith}
use lib.Dec.{eqb, lit<}
use lib.ListN.{length, get_or, set, length-set}
use lib.Seq.{get_or-set_other, get_or-set_same}
use borrow.Author.Tests.{eqb-true, eqb-false}
use Rattle.theory.specs.Tree.{Term, Pattern, enc, stands}
use Rattle.theory.specs.Table.{Table}
use Rattle.theory.specs.Read.{walk, several}
use Rattle.theory.specs.Decode.{pattern_of, term_of, parse, parse_row}
use Rattle.meaning.specs.Limits.{span_width}
use Rattle.meaning.specs.File.{arities_in, pairs_in, table_in}
use Rattle.meaning.specs.Refusals.{row1_short, row1_offsets, row2, row3, row4, row5, row6, row7, row8, row9, row10, table_rows}
use Rattle.meaning.specs.Packing.{packed_count, packed_spans}
use Rattle.meaning.specs.Calls.{Answer, refused, gives, Degrees, degrees, Matched, faces_in, input_rows, search_rows, match_rows, matched, later_spans, match_call}
use Rattle.meaning.specs.Buffers.{first_position_lem, position_count_lem, holds, DrawnFrom}
use Rattle.meaning.specs.Demands.{Found, Decides, Narrower, Accepted, Demand2 as MatchOf, Demand3 as CutsOf}
use Rattle.meaning.proofs.Matched.{ready}
use Rattle.meaning.proofs.Lengths.{lengths, rooms}
use Rattle.meaning.proofs.Spans.{answered_none}
use Rattle.meaning.proofs.Examples.{T, p, h}
use Rattle.meaning.proofs.Wrong.{P as pattern_tree, H as heading_tree, writes-P, writes-H}
use Rattle.demands.specs.Program.{Program}
use Rattle.demands.specs.Demand2.{Demand2}
use Rattle.demands.specs.Demand3.{Demand3}
use Rattle.demands.specs.Further.{Further}
use Rattle.demands.proofs.Meant.{Handing, with_match}
use Rattle.demands.proofs.Drawn.{by_cuts}
use Rattle.demands.proofs.Demands.{demand2, demand3}
use Rattle.demands.proofs.Instances.{met2}
use Rattle.demands.proofs.Lent.{no_spans, no_sets}

-- spans in which variable 31 has 5 and 3
abbrev spoilt : List ℕ → List ℕ
spoilt xs = set (set xs 124 5) 125 3

-- .. of an answer, where variable 31 does not stand in the pattern
abbrev spoil : Answer Degrees → Bool → List ℕ → List ℕ
spoil (gives d) false xs = spoilt xs
spoil (gives d) true xs = xs
spoil (refused n place) b xs = xs

abbrev spoiled : Bool → Matched → Matched
spoiled b r = record { answer = r.answer; spans = spoil r.answer b r.spans; sets = r.sets }

abbrev pub absent : (table pattern heading : List ℕ) (cut : ℕ) (spans sets : List ℕ) → Matched
absent table pattern heading cut spans sets = spoiled (stands 31 (pattern_of (table_in table) pattern)) (match_call table pattern heading cut spans sets)

-- ---- what is read of the variables that stand in the pattern is as it was

other_numbers : (a : Answer Degrees) (b : Bool) (xs : List ℕ) (i : ℕ) → (i ≡ 124 → ⊥) → (i ≡ 125 → ⊥) → get_or (spoil a b xs) i 0 ≡ get_or xs i 0
other_numbers (gives d) false xs i m n = get_or-set_other (set xs 124 5) 125 i 3 0 n ∙ get_or-set_other xs 124 i 5 0 m
other_numbers (gives d) true xs i m n = refl
other_numbers (refused n place) b xs i m o = refl

standing_kept : (a : Answer Degrees) (xs : List ℕ) → spoil a true xs ≡ xs
standing_kept (gives d) xs = refl
standing_kept (refused n place) xs = refl

module _ (p : Pattern) (a : Answer Degrees) (xs : List ℕ) where
  reads : (v : ℕ) → stands v p ≡ true → (first_position_lem (spoil a (stands 31 p) xs) v ≡ first_position_lem xs v) × (position_count_lem (spoil a (stands 31 p) xs) v ≡ position_count_lem xs v)
  reads v s = go (stands 31 p) refl
    where
      go : (b : Bool) → stands 31 p ≡ b → (first_position_lem (spoil a b xs) v ≡ first_position_lem xs v) × (position_count_lem (spoil a b xs) v ≡ position_count_lem xs v)
      go true e = let q = standing_kept a xs in (ap (λ l. first_position_lem l v) q, ap (λ l. position_count_lem l v) q)
      go false e =
          let n : v ≡ 31 → ⊥ = λ q. false≢true (inv e ∙ subst (λ n. stands n p ≡ true) q s) in
          (other_numbers a false xs (span_width * v) (λ q. n (omega arith)) (λ q. omega arith), other_numbers a false xs (span_width * v + 1) (λ q. omega arith) (λ q. n (omega arith)))

module _ (T : Table) (cut : ℕ) (p : Pattern) (h : Term) (r : Matched) where
  drawn : (xs ys : List ℕ) (v : ℕ) (t : Term) → (first_position_lem xs v ≡ first_position_lem ys v) × (position_count_lem xs v ≡ position_count_lem ys v)
      → DrawnFrom T xs r.sets v t → DrawnFrom T ys r.sets v t
  drawn xs ys v t e d =
      record { over = d.over; as_many = d.as_many ∙ e.1; symbols = λ k l. subst (λ n. holds r.sets (n + k) (get_or (enc t) k 0) ≡ true) e.0 (d.symbols k l) }

  found_spoiled : Found T cut p h r → Found T cut p h (spoiled (stands 31 p) r)
  found_spoiled f =
      let ys = spoil r.answer (stands 31 p) r.spans in
      record {
        lowest = f.lowest;
        highest = f.highest;
        answered = f.answered;
        is_lowest = f.is_lowest;
        is_highest = f.is_highest;
        matchers = λ σ. (
          (λ m v s. let q = reads p r.answer r.spans v s in drawn r.spans ys v (σ v) (inv q.0, inv q.1) ((f.matchers σ).0 m v s)),
          (λ d. (f.matchers σ).1 (λ v s. drawn ys r.spans v (σ v) (reads p r.answer r.spans v s) (d v s))),
        );
      }

  decides_spoiled : Decides T cut p h r → Decides T cut p h (spoiled (stands 31 p) r)
  decides_spoiled d = record { no_match = d.no_match; otherwise = λ k. found_spoiled (d.otherwise k) }

-- ---- two answers are spoiled alike

module _ (xs ys : List ℕ) (lx : 128 ≤ length xs) (ly : 128 ≤ length ys) (i : ℕ) (q : get_or xs i 0 ≡ get_or ys i 0) where
  at125 : (zs : List ℕ) → 128 ≤ length zs → get_or (spoilt zs) 125 0 ≡ 3
  at125 zs l = get_or-set_same (set zs 124 5) 125 3 0 (omega (arith, length-set zs 124 5))

  at124 : (zs : List ℕ) → 128 ≤ length zs → get_or (spoilt zs) 124 0 ≡ 5
  at124 zs l = get_or-set_other (set zs 124 5) 125 124 3 0 (λ e. omega arith) ∙ get_or-set_same zs 124 5 0 (omega arith)

  alike : get_or (spoilt xs) i 0 ≡ get_or (spoilt ys) i 0
  alike = go (eqb i 125) refl (eqb i 124) refl
    where
      go : (b : Bool) → eqb i 125 ≡ b → (c : Bool) → eqb i 124 ≡ c → get_or (spoilt xs) i 0 ≡ get_or (spoilt ys) i 0
      go true e c f = rw (eqb-true i 125 e) (at125 xs lx ∙ inv (at125 ys ly))
      go false e true f = rw (eqb-true i 124 f) (at124 xs lx ∙ inv (at124 ys ly))
      go false e false f =
          let other : (zs : List ℕ) → get_or (spoilt zs) i 0 ≡ get_or zs i 0
          = λ zs. get_or-set_other (set zs 124 5) 125 i 3 0 (eqb-false i 125 e) ∙ get_or-set_other zs 124 i 5 0 (eqb-false i 124 f) in
          other xs ∙ q ∙ inv (other ys)

  spoiled_alike : (a a' : Answer Degrees) (x x' : Degrees) (b : Bool) → a ≡ gives x → a' ≡ gives x' → get_or (spoil a b xs) i 0 ≡ get_or (spoil a' b ys) i 0
  spoiled_alike a a' x x' b e f = rw (e, f) (go b)
    where
      go : (b : Bool) → get_or (spoil (gives x) b xs) i 0 ≡ get_or (spoil (gives x') b ys) i 0
      go true = q
      go false = alike

-- an answered match has room for the spans
long : (t p h : List ℕ) (c : ℕ) (sp se : List ℕ) (x : Degrees) → (match_call t p h c sp se).answer ≡ gives x → 128 ≤ length (match_call t p h c sp se).spans
long t p h c sp se x e = omega (arith, lengths.of_spans t p h c sp se, (rooms t p h c sp se (answered_none t p h c sp se x e)).0)

narrower_spoiled : (t p h : List ℕ) (c : ℕ) (sp se : List ℕ) (c' : ℕ) (sp' se' : List ℕ) (l g : ℕ) → (match_call t p h c' sp' se').answer ≡ gives (degrees l g)
    → Narrower c' (match_call t p h c sp se) (match_call t p h c' sp' se') l g → Narrower c' (absent t p h c sp se) (absent t p h c' sp' se') l g
narrower_spoiled t p h c sp se c' sp' se' l g e n =
    record {
      low₁ = n.low₁;
      high₁ = n.high₁;
      first_answers = n.first_answers;
      reaches = n.reaches;
      inside = n.inside;
      same_start = λ v m. same (span_width * v) (n.same_start v m);
      same_count = λ v m. same (span_width * v + 1) (n.same_count v m);
      same-highest = n.same-highest;
      same_own_highest = λ v m. same (span_width * v + 3) (n.same_own_highest v m);
    }
  where
    same : (i : ℕ) → get_or (match_call t p h c' sp' se').spans i 0 ≡ get_or (match_call t p h c sp se).spans i 0 → get_or (absent t p h c' sp' se').spans i 0 ≡ get_or (absent t p h c sp se).spans i 0
    same i q =
        spoiled_alike (match_call t p h c' sp' se').spans (match_call t p h c sp se).spans (long t p h c' sp' se' _ e) (long t p h c sp se _ n.first_answers) i q _ _
        (degrees l g) (degrees n.low₁ n.high₁) (stands 31 (pattern_of (table_in t) p)) e n.first_answers

absent_two : (H : Handing) → Demand2 (with_match H absent)
absent_two H = record { degree = (demand2 H).degree; match = of_match }
  where
    of_match : (t p h : List ℕ) (c : ℕ) (sp se : List ℕ) → Accepted t p h c sp se → MatchOf t p h c (absent t p h c sp se)
    of_match t p h c sp se a =
        let d = (demand2 H).match t p h c sp se a in
        let e = d.writes_pattern.only (pattern_of (table_in t) p) (ready t p h c sp se a).pattern_is.holds in
        record {
          p = d.p;
          h = d.h;
          writes_pattern = d.writes_pattern;
          writes_heading = d.writes_heading;
          decides = rw e (decides_spoiled (table_in t) c d.p d.h (match_call t p h c sp se) d.decides);
        }

-- THEOREM: demands 2 and 3 allow it
pub absent_meets : (H : Handing) → Demand2 (with_match H absent) × Demand3 (with_match H absent)
absent_meets H = (absent_two H, by_cuts (with_match H absent) (absent_two H) of_cuts)
  where
    of_cuts : (t p h : List ℕ) (c : ℕ) (sp se : List ℕ) (c' : ℕ) (sp' se' : List ℕ) → c ≤ c' → Accepted t p h c sp se → Accepted t p h c' sp' se'
        → CutsOf t p h c (absent t p h c sp se) c' (absent t p h c' sp' se')
    of_cuts t p h c sp se c' sp' se' up a a' =
        let d = (demand3 H).cuts t p h c sp se c' sp' se' up a a' in
        record {
          p = d.p;
          h = d.h;
          writes_pattern = d.writes_pattern;
          writes_heading = d.writes_heading;
          two_cuts = record {
            substitutions = d.two_cuts.substitutions;
            answers = λ l g e. narrower_spoiled t p h c sp se c' sp' se' l g e (d.two_cuts.answers l g e);
            answers_if = d.two_cuts.answers_if;
          };
        }

-- at the listing's question it has counted 3 for variable 31
counted : ((absent T p h 500 no_spans (no_sets 5)).answer ≡ gives (degrees 500 700)) × (position_count_lem (absent T p h 500 no_spans (no_sets 5)).spans 31 ≡ 3)
unfolding
    matched later_spans match_rows input_rows search_rows faces_in packed_count packed_spans table_rows row1_short row1_offsets row2 row3 row4 row5 row6 row7 row8 row9 row10 table_in arities_in pairs_in pattern_of
    term_of parse parse_row walk several
counted = (refl, refl)

-- THEOREM: what is said of the spans does not (`PackedInOrder.absent`)
pub absent_fails : (P : Program)
    → ((table pattern heading : List ℕ) (cut : ℕ) (spans sets : List ℕ) → P.match table pattern heading cut spans sets ≡ absent table pattern heading cut spans sets)
    → Further P → ⊥
absent_fails P w f =
    let e = w T p h 500 no_spans (no_sets 5) in
    let s = f.matches T p h 500 no_spans (no_sets 5) met2.1 pattern_tree writes-P heading_tree writes-H in
    let q = ((s.packed (degrees 500 700) (ap (λ r. r.answer) e ∙ counted.0)).absent 31 (lit< tt) refl).1 in
    omega (arith, q, ap (λ r. position_count_lem r.spans 31) e, counted.1)
