-- Demand 2 of the match: it says 9 or 10 exactly if no matcher exists; otherwise the matchers are exactly what is drawn from the buffers. The
-- rows of the search are the theory's verdict on the two trees, and the buffers hold the sets of what faces each variable.
use mathlib.Core.Path.{◌≡◌, refl, sym as inv, ap, ◌∙◌}
use mathlib.Core.Logic.{◌↔◌, inl, inr, ⊎_elim}
use mathlib.Core.List.{List, [], ◌∷◌, ◌++◌}
use mathlib.Core.Bool.{true}
use mathlib.Core.Option.{Option, none, some as just, some-ne-none}
use Prim.Native.Nat.{ℕ, ◌+◌, ◌-◌, ◌*◌, ◌≤◌, ◌<◌}
use native.Mathlib.Omega.{arith}
use lib.ListN.{length, get_or}
use Rattle.theory.specs.Tree.{Term, Pattern, stands}
use Rattle.theory.specs.Table.{Table, Lawful, OnlyItself, Over, Overₚ}
use Rattle.theory.specs.Faces.{Face, faces, facing}
use Rattle.theory.specs.Match.{size, clash, lowest_of_lem, highest_of, Matches, Drawn, DrawnAll}
use Rattle.theory.specs.Least.{least_below}
use Rattle.theory.specs.Verdict.{verdict, settled, lacking, NoMatcher, Means, MeansMatch}
use Rattle.theory.specs.Read.{Fine}
use Rattle.theory.specs.Decode.{pattern_of, term_of}
use Rattle.theory.proofs.Decoding.{fine_over}
use Rattle.theory.proofs.Matchers.{none_clear, facing-over}
use Rattle.theory.proofs.Present.{present}
use Rattle.theory.proofs.Theorems.{answered}
use Rattle.theory.proofs.Verdict.{verdict_means, stands_small}
use Rattle.meaning.specs.Limits.{most_symbols, variable_count, span_width}
use Rattle.meaning.specs.File.{table_in}
use Rattle.meaning.specs.Refusals.{Refusal, refusal, row, first, outside, table_rows, row5, row6, row7, row8, row9, row10}
use Rattle.meaning.specs.Packing.{order, among, packed_spans, packed_sets, sets_of}
use Rattle.meaning.specs.Calls.{Answer, refused, unless, Degrees, degrees, zeros, faces_in, input_rows, search_rows, match_rows, matched, later_spans, later_sets, match_call}
use Rattle.meaning.specs.Buffers.{holds, DrawnFrom}
use Rattle.meaning.specs.Demands.{WritesTerm, WritesPattern, Only, Accepted, NoMatch, Found, Decides, Demand2}
use Rattle.meaning.proofs.First.{Silent, all_silent, append-none, first-append, unless_refused}
use Rattle.meaning.proofs.Sound.{at0-none, inside_of, sound}
use Rattle.meaning.proofs.Trees.{whole6, whole7, one_pattern, one_term}
use Rattle.meaning.proofs.Bits.{holds_at}
use Rattle.meaning.proofs.Packing.{order-among, span_at}
use Rattle.meaning.proofs.Drawn.{Packed, drawn_from}

-- ---- what a call that is not refused by 1 to 8 has passed

pub record Ready (table pattern heading : List ℕ) (cut : ℕ) : Type 0 where
  pub lawful : Lawful (table_in table)
  pub only_itself : OnlyItself (table_in table)
  pub small : (table_in table).size ≤ most_symbols
  pub positive : 0 < cut
  pub cut_top : cut ≤ 1000
  pub pattern_is : Only (WritesPattern (table_in table) pattern) (pattern_of (table_in table) pattern)
  pub heading_is : Only (WritesTerm (table_in table) heading) (term_of (table_in table) heading)

cut_inside : (cut : ℕ) → Silent (row5 cut) → (1 ≤ cut) × (cut ≤ 1000)
unfolding row5
cut_inside cut e = inside_of 1 1000 cut (at0-none (outside 1 1000 cut) e)

pub ready : (table pattern heading : List ℕ) (cut : ℕ) (spans sets : List ℕ) → Accepted table pattern heading cut spans sets → Ready table pattern heading cut
unfolding input_rows
ready table pattern heading cut spans sets a =
    let T = table_in table in
    let rest = row5 cut ∷ row6 T true pattern ∷ row7 T heading ∷ row8 heading spans sets ∷ [] in
    let r = append-none (table_rows table) rest a in
    let s = all_silent rest r.1 in
    let t = sound table r.0 in
    let b : T.size ≤ 32768 = omega (arith, t.small) in
    record {
      lawful = t.lawful;
      only_itself = t.only_itself;
      small = t.small;
      positive = (cut_inside cut s.0).0;
      cut_top = (cut_inside cut s.0).1;
      pattern_is = one_pattern T b pattern (whole6 T true pattern s.1.0);
      heading_is = one_term T b heading (whole7 T heading s.1.1.0);
    }

-- ---- how the search ends: by 9, by 10, or with an answer

pub data Ending (o : Option Refusal) (N M : Type 0) : Type 0 where
  by9 : (i : ℕ) → o ≡ just (refusal 9 i) → N → Ending o N M
  by10 : (v : ℕ) → o ≡ just (refusal 10 v) → N → Ending o N M
  fine : o ≡ none → M → Ending o N M

module _ (o : Option Refusal) (N M : Type 0) where
  -- where no refusal is given there is an answer, and where there is a matcher no refusal is given
  pub given_none : Ending o N M → o ≡ none → M
  given_none (by9 i e n) q = absurd (some-ne-none (refusal 9 i) (inv e ∙ q))
  given_none (by10 v e n) q = absurd (some-ne-none (refusal 10 v) (inv e ∙ q))
  given_none (fine e m) q = m

  pub given_some : Ending o N M → (N → ⊥) → o ≡ none
  given_some (by9 i e n) q = absurd (q n)
  given_some (by10 v e n) q = absurd (q n)
  given_some (fine e m) q = e

-- an answered match, and what its answer means
abbrev pub MatchMeans : Table → ℕ → Pattern → Term → Type 0
MatchMeans T c p h = Matches T c p h × MeansMatch T c p h (lowest_of_lem T c (faces p h)) (highest_of T c (faces p h))

module _ (T : Table) (L : Lawful T) (c : ℕ) (pos : 0 < c) (cut : c ≤ 1000) (p : Pattern) (h : Term) (op : Fine T true p) (oh : Over T h) where
  pub search_ends : Ending (first (row9 T c p h ∷ row10 T c p h ∷ [])) (NoMatcher T c p h) (MatchMeans T c p h)
  unfolding row9 row10 verdict
  search_ends = go (clash T c (faces p h)) refl (least_below variable_count (lacking T c p h)) refl (verdict_means T L p h op oh c pos cut)
    where
      over_p : Overₚ T p
      over_p = fine_over T true p op

      low : ℕ
      low = lowest_of_lem T c (faces p h)

      high : ℕ
      high = highest_of T c (faces p h)

      go : (o : Option ℕ) → clash T c (faces p h) ≡ o → (q : Option ℕ) → least_below variable_count (lacking T c p h) ≡ q → Means T c p h (settled o q low high)
          → Ending (first (row 9 o ∷ row 10 q ∷ [])) (NoMatcher T c p h) (MatchMeans T c p h)
      go (just i) e q f m = by9 i refl m.1
      go none e (just v) f m = by10 v refl m.no_matcher
      go none e none f m =
          fine refl ((answered T L p h over_p oh c pos cut).1 (m.lowest.reached.0, m.lowest.reached.1), m)

-- ---- the buffers of an answered match

module _ (T : Table) (c : ℕ) (fs : List Face) where
  pub packed : (m n v : ℕ) → v < variable_count → 0 < length (facing v fs) → Packed T c fs v (packed_spans T c fs ++ zeros m) (packed_sets T c fs ++ zeros n)
  unfolding packed_sets
  packed m n v l some =
      record {
        standing = s;
        starts = ap (λ i. get_or (packed_spans T c fs ++ zeros m) i 0) zero_more ∙ span_at T c fs (zeros m) v 0 l (omega arith) ∙ rw s;
        counts = span_at T c fs (zeros m) v 1 l (omega arith) ∙ rw s;
        held = λ p k b. holds_at (sets_of T c fs (order fs)) n p k b;
      }
    where
      s : among v (order fs) ≡ true
      s = order-among v fs some

      zero_more : span_width * v ≡ span_width * v + 0
      zero_more = omega arith

-- ---- demand 2

module _ (table pattern heading : List ℕ) (cut : ℕ) (spans sets : List ℕ) where
  abbrev T : Table
  T = table_in table

  abbrev p : Pattern
  p = pattern_of (table_in table) pattern

  abbrev h : Term
  h = term_of (table_in table) heading

  pub match_ends : Accepted table pattern heading cut spans sets → Ready table pattern heading cut
      → Ending (first (match_rows table pattern heading cut spans sets)) (NoMatcher T cut p h) (MatchMeans T cut p h)
  unfolding match_rows search_rows
  match_ends a r =
      rw (first-append (input_rows table pattern heading cut spans sets) (search_rows table pattern heading cut) a)
      (search_ends T r.lawful cut r.positive r.cut_top p h r.pattern_is.holds.fine r.heading_is.holds.over)

  -- the buffers, where no refusal is given
  pub spans_are : first (match_rows table pattern heading cut spans sets) ≡ none
      → later_spans table pattern heading cut spans sets ≡ packed_spans T cut (faces p h) ++ zeros (length spans - length (packed_spans T cut (faces p h)))
  unfolding later_spans faces_in
  spans_are e = rw e

  pub sets_are : first (match_rows table pattern heading cut spans sets) ≡ none
      → later_sets table pattern heading cut spans sets ≡ packed_sets T cut (faces p h) ++ zeros (length sets - length (packed_sets T cut (faces p h)))
  unfolding later_sets faces_in
  sets_are e = rw e

  -- an answered match has found all
  pub found : Ready table pattern heading cut → first (match_rows table pattern heading cut spans sets) ≡ none → MatchMeans T cut p h
      → Found T cut p h (match_call table pattern heading cut spans sets)
  unfolding matched faces_in
  found r e a =
      record {
        lowest = lowest_of_lem T cut fs;
        highest = highest_of T cut fs;
        answered = rw e;
        is_lowest = a.1.lowest;
        is_highest = a.1.highest;
        matchers = λ σ. ((λ m. there σ ((a.1.matchers σ).0 m)), (λ d. (a.1.matchers σ).1 (back σ d)));
      }
    where
      fs : List Face
      fs = faces p h

      op : Fine T true p
      op = r.pattern_is.holds.fine

      oh : Over T h
      oh = r.heading_is.holds.over

      -- what v faces
      some : (v : ℕ) → stands v p ≡ true → 0 < length (facing v fs)
      some v s = present T r.lawful cut r.positive v p h (fine_over T true p op) oh (none_clear T cut fs a.0.clear) s

      -- drawn from v's sets is drawn from the buffers
      same : (v : ℕ) → stands v p ≡ true → (u : Term)
          → Drawn T cut (facing v fs) u ↔ DrawnFrom T (later_spans table pattern heading cut spans sets) (later_sets table pattern heading cut spans sets) v u
      same v s u =
          let m = length spans - length (packed_spans T cut fs) in
          let n = length sets - length (packed_sets T cut fs) in
          rw (spans_are e, sets_are e)
          (drawn_from T r.lawful r.small cut r.positive r.cut_top fs v (packed_spans T cut fs ++ zeros m) (packed_sets T cut fs ++ zeros n)
          (packed T cut fs m n v (stands_small T v p op s) (some v s)) u (facing-over T p h oh v) (a.0.forms v s) (some v s))

      there : (σ : ℕ → Term) → DrawnAll T cut p h σ → (v : ℕ) → stands v p ≡ true
          → DrawnFrom T (later_spans table pattern heading cut spans sets) (later_sets table pattern heading cut spans sets) v (σ v)
      there σ d v s = (same v s (σ v)).0 (d.each v s)

      back : (σ : ℕ → Term) → ((v : ℕ) → stands v p ≡ true → DrawnFrom T (later_spans table pattern heading cut spans sets) (later_sets table pattern heading cut spans sets) v (σ v))
          → DrawnAll T cut p h σ
      back σ d = record { clear = a.0.clear; each = λ v s. (same v s (σ v)).1 (d v s) }

  -- the call's answer, from the refusal that its rows give
  abbrev given : Option Refusal → Answer Degrees
  given o = unless o (degrees (lowest_of_lem T cut (faces p h)) (highest_of T cut (faces p h)))

  decided : Ready table pattern heading cut → Ending (first (match_rows table pattern heading cut spans sets)) (NoMatcher T cut p h) (MatchMeans T cut p h)
      → Decides T cut p h (match_call table pattern heading cut spans sets)
  unfolding matched faces_in
  decided r (by9 i e n) =
      let m : NoMatch (match_call table pattern heading cut spans sets) = (i, inl (ap given e)) in
      record { no_match = ((λ q. n), (λ q. m)); otherwise = λ q. absurd (q m) }
  decided r (by10 v e n) =
      let m : NoMatch (match_call table pattern heading cut spans sets) = (v, inr (ap given e)) in
      record { no_match = ((λ q. n), (λ q. m)); otherwise = λ q. absurd (q m) }
  decided r (fine e a) =
      record {
        no_match = ((λ q. absurd (never q)), (λ q. absurd (q a.1.lowest.reached.0 a.1.lowest.reached.1)));
        otherwise = λ q. found r e a;
      }
    where
      not_refused : (n place : ℕ) → given (first (match_rows table pattern heading cut spans sets)) ≡ refused n place → ⊥
      not_refused n place q = some-ne-none (refusal n place) (inv (unless_refused _ _ n place q) ∙ e)

      never : NoMatch (match_call table pattern heading cut spans sets) → ⊥
      never q = ⊎_elim (λ x. not_refused 9 q.0 x) (λ x. not_refused 10 q.0 x) q.1

  -- THEOREM, demand 2
  pub demand2 : Accepted table pattern heading cut spans sets → Demand2 table pattern heading cut (match_call table pattern heading cut spans sets)
  demand2 a =
      let r = ready table pattern heading cut spans sets a in
      record { p = p; h = h; writes_pattern = r.pattern_is; writes_heading = r.heading_is; decides = decided r (match_ends a r) }
