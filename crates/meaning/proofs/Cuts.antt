-- Demand 3: what a second cut, not lower than the first, leaves of a match. Where variables are packed and their own highest degrees do not depend on
-- the cut, each set at the higher one is part of the set at the lower, and the rest is the theory's, of the two trees.
use mathlib.Core.Path.{◌≡◌, refl, sym as inv, ◌∙◌}
use mathlib.Core.Logic.{◌↔◌}
use mathlib.Core.List.{List, [], ◌∷◌}
use mathlib.Core.Bool.{Bool, true, false, cond}
use mathlib.Core.Option.{none}
use Prim.Native.Nat.{ℕ, zero, suc, ◌+◌, ◌-◌, ◌*◌, ◌≤◌, ◌<◌}
use native.Mathlib.Omega.{arith}
use lib.ListN.{length, get_or}
use Rattle.theory.specs.Tree.{Term, Pattern}
use Rattle.theory.specs.Table.{Table, Lawful, Over, Overₚ}
use Rattle.theory.specs.Faces.{Face, faces, facing}
use Rattle.theory.specs.Match.{lowest_of_lem, highest_of, Matches}
use Rattle.theory.specs.Decode.{pattern_of, term_of}
use Rattle.theory.proofs.Decoding.{fine_over}
use Rattle.theory.proofs.Theorems.{answered, matchers_cut, answered_cut, highest_cut, sets_cut}
use Rattle.theory.proofs.Own.{highest_for_cut}
use Rattle.meaning.specs.Limits.{set_room, variable_count, span_width}
use Rattle.meaning.specs.File.{table_in}
use Rattle.meaning.specs.Refusals.{first}
use Rattle.meaning.specs.Packing.{order, count_of, start_in, among, span_from, span_in, packed_spans, packed_sets, sets_of}
use Rattle.meaning.specs.Calls.{gives, Degrees, degrees, zeros, faces_in, match_rows, matched, later_spans, later_sets, match_call}
use Rattle.meaning.specs.Buffers.{holds}
use Rattle.meaning.specs.Demands.{Accepted, Narrower, Demand3}
use Rattle.meaning.proofs.First.{unless_gives}
use Rattle.meaning.proofs.Bits.{holds_at}
use Rattle.meaning.proofs.Packing.{span_at, sets_inside}
use Rattle.meaning.proofs.Standing.{packed_stands}
use Rattle.meaning.proofs.Matched.{Ready, ready, given_none, given_some, match_ends, spans_are, sets_are}

same_degrees : (a b c d : ℕ) → degrees a b ≡ degrees c d → b ≡ d
same_degrees a b c d e = cc

module _ (table pattern heading : List ℕ) (cut₁ : ℕ) (spans₁ sets₁ : List ℕ) (cut₂ : ℕ) (spans₂ sets₂ : List ℕ) (up : cut₁ ≤ cut₂)
    (a₁ : Accepted table pattern heading cut₁ spans₁ sets₁) (a₂ : Accepted table pattern heading cut₂ spans₂ sets₂) where
  abbrev T : Table
  T = table_in table

  abbrev p : Pattern
  p = pattern_of (table_in table) pattern

  abbrev h : Term
  h = term_of (table_in table) heading

  abbrev fs : List Face
  fs = faces (pattern_of (table_in table) pattern) (term_of (table_in table) heading)

  r₁ : Ready table pattern heading cut₁
  r₁ = ready table pattern heading cut₁ spans₁ sets₁ a₁

  r₂ : Ready table pattern heading cut₂
  r₂ = ready table pattern heading cut₂ spans₂ sets₂ a₂

  L : Lawful T
  L = r₁.lawful

  op : Overₚ T p
  op = fine_over T true p r₁.pattern_is.holds.fine

  oh : Over T h
  oh = r₁.heading_is.holds.over

  -- a match without a refusal is answered, and the other way round
  none₁ : first (match_rows table pattern heading cut₁ spans₁ sets₁) ≡ none ↔ Matches T cut₁ p h
  none₁ = (
    (λ e. (given_none _ _ _ (match_ends table pattern heading cut₁ spans₁ sets₁ a₁ r₁) e).0),
    (λ a. given_some _ _ _ (match_ends table pattern heading cut₁ spans₁ sets₁ a₁ r₁) (λ n. let m = (answered T L p h op oh cut₁ r₁.positive r₁.cut_top).0 a in n m.0 m.1)),
  )

  none₂ : first (match_rows table pattern heading cut₂ spans₂ sets₂) ≡ none ↔ Matches T cut₂ p h
  none₂ = (
    (λ e. (given_none _ _ _ (match_ends table pattern heading cut₂ spans₂ sets₂ a₂ r₂) e).0),
    (λ a. given_some _ _ _ (match_ends table pattern heading cut₂ spans₂ sets₂ a₂ r₂) (λ n. let m = (answered T L p h op oh cut₂ r₂.positive r₂.cut_top).0 a in n m.0 m.1)),
  )

  -- what the buffers say where neither is refused
  module _ (e₁ : first (match_rows table pattern heading cut₁ spans₁ sets₁) ≡ none) (e₂ : first (match_rows table pattern heading cut₂ spans₂ sets₂) ≡ none) where
    spans_same : (v j : ℕ) → v < variable_count → j < span_width → get_or (span_in T cut₂ fs (order fs) v) j 0 ≡ get_or (span_in T cut₁ fs (order fs) v) j 0
        → get_or (later_spans table pattern heading cut₂ spans₂ sets₂) (span_width * v + j) 0 ≡ get_or (later_spans table pattern heading cut₁ spans₁ sets₁) (span_width * v + j) 0
    spans_same v j l m same =
        rw (spans_are table pattern heading cut₂ spans₂ sets₂ e₂, spans_are table pattern heading cut₁ spans₁ sets₁ e₁)
        (span_at T cut₂ fs (zeros (length spans₂ - length (packed_spans T cut₂ fs))) v j l m
        ∙ same
        ∙ inv (span_at T cut₁ fs (zeros (length spans₁ - length (packed_spans T cut₁ fs))) v j l m))

    -- where a variable is packed does not depend on the cut, nor does its own highest degree
    same_span : (v : ℕ) → (j : ℕ) → (j ≡ 2 → ⊥) → get_or (span_in T cut₂ fs (order fs) v) j 0 ≡ get_or (span_in T cut₁ fs (order fs) v) j 0
    same_span v = go (among v (order fs)) refl
      where
        at : ℕ → List ℕ
        at cut = span_from T cut fs (start_in (count_of fs) v (order fs)) v

        go : (b : Bool) → among v (order fs) ≡ b → (j : ℕ) → (j ≡ 2 → ⊥) → get_or (cond b (at cut₂) (0 ∷ 0 ∷ 0 ∷ 0 ∷ [])) j 0 ≡ get_or (cond b (at cut₁) (0 ∷ 0 ∷ 0 ∷ 0 ∷ [])) j 0
        go true m zero n = refl
        go true m (suc zero) n = refl
        go true m (suc (suc zero)) n = absurd (n refl)
        go true m (suc (suc (suc zero))) n = highest_for_cut T cut₁ cut₂ up (facing v fs) ((none₂.0 e₂).forms v (packed_stands v p h m))
        go true m (suc (suc (suc (suc j)))) n = refl
        go false m j n = refl

    sets_narrow : (position symbol : ℕ) → symbol < set_room
        → holds (later_sets table pattern heading cut₂ spans₂ sets₂) position symbol ≡ true
        → holds (later_sets table pattern heading cut₁ spans₁ sets₁) position symbol ≡ true
    unfolding packed_sets
    sets_narrow position symbol l =
        rw (sets_are table pattern heading cut₂ spans₂ sets₂ e₂, sets_are table pattern heading cut₁ spans₁ sets₁ e₁)
        (λ q.
        holds_at (sets_of T cut₁ fs (order fs)) (length sets₁ - length (packed_sets T cut₁ fs)) position symbol l
        ∙ sets_inside T cut₁ cut₂ fs (sets_cut T L p h op oh cut₁ cut₂ r₁.positive up r₂.cut_top) (order fs) position symbol
        (inv (holds_at (sets_of T cut₂ fs (order fs)) (length sets₂ - length (packed_sets T cut₂ fs)) position symbol l) ∙ q))

  narrower : (low₂ high₂ : ℕ) → matched table pattern heading cut₂ spans₂ sets₂ ≡ gives (degrees low₂ high₂)
      → Narrower cut₂ (match_call table pattern heading cut₁ spans₁ sets₁) (match_call table pattern heading cut₂ spans₂ sets₂) low₂ high₂
  unfolding matched faces_in
  narrower low₂ high₂ e =
      let g = unless_gives (first (match_rows table pattern heading cut₂ spans₂ sets₂)) (degrees (lowest_of_lem T cut₂ fs) (highest_of T cut₂ fs)) (degrees low₂ high₂) e in
      let b₂ : Matches T cut₂ p h = none₂.0 g.0 in
      let b₁ = (answered_cut T L p h op oh cut₁ cut₂ r₁.positive up r₂.cut_top).0 b₂ in
      let e₁ : first (match_rows table pattern heading cut₁ spans₁ sets₁) ≡ none = none₁.1 b₁.0 in
      record {
        low₁ = lowest_of_lem T cut₁ fs;
        high₁ = highest_of T cut₁ fs;
        first_answers = rw e₁;
        reaches = b₁.1;
        inside = sets_narrow e₁ g.0;
        same_start = λ v l. plain v (spans_same e₁ g.0 v 0 l (omega arith) (same_span e₁ g.0 v 0 (λ z. omega arith)));
        same_count = λ v l. spans_same e₁ g.0 v 1 l (omega arith) (same_span e₁ g.0 v 1 (λ z. omega arith));
        same-highest = inv (same_degrees _ _ _ _ g.1) ∙ highest_cut T L p h op oh cut₁ cut₂ r₁.positive up r₂.cut_top b₂;
        same_own_highest = λ v l. spans_same e₁ g.0 v 3 l (omega arith) (same_span e₁ g.0 v 3 (λ z. omega arith));
      }
    where
      plain : (v : ℕ) → get_or (later_spans table pattern heading cut₂ spans₂ sets₂) (span_width * v + 0) 0 ≡ get_or (later_spans table pattern heading cut₁ spans₁ sets₁) (span_width * v + 0) 0
          → get_or (later_spans table pattern heading cut₂ spans₂ sets₂) (span_width * v) 0 ≡ get_or (later_spans table pattern heading cut₁ spans₁ sets₁) (span_width * v) 0
      plain v q = let i : span_width * v + 0 ≡ span_width * v = omega arith in rw i at q

  answers_second : (low₁ high₁ : ℕ) → matched table pattern heading cut₁ spans₁ sets₁ ≡ gives (degrees low₁ high₁) → cut₂ ≤ high₁
      → (d : Degrees) × (matched table pattern heading cut₂ spans₂ sets₂ ≡ gives d)
  unfolding matched faces_in
  answers_second low₁ high₁ e l =
      let g = unless_gives (first (match_rows table pattern heading cut₁ spans₁ sets₁)) (degrees (lowest_of_lem T cut₁ fs) (highest_of T cut₁ fs)) (degrees low₁ high₁) e in
      let k : highest_of T cut₁ fs ≡ high₁ = same_degrees _ _ _ _ g.1 in
      let b₂ : Matches T cut₂ p h = (answered_cut T L p h op oh cut₁ cut₂ r₁.positive up r₂.cut_top).1 (none₁.0 g.0, omega arith) in
      let e₂ : first (match_rows table pattern heading cut₂ spans₂ sets₂) ≡ none = none₂.1 b₂ in
      (degrees (lowest_of_lem T cut₂ fs) (highest_of T cut₂ fs), rw e₂)

  -- THEOREM, demand 3
  pub demand3 : Demand3 table pattern heading cut₁ (match_call table pattern heading cut₁ spans₁ sets₁) cut₂ (match_call table pattern heading cut₂ spans₂ sets₂)
  demand3 =
      record {
        p = p;
        h = h;
        writes_pattern = r₁.pattern_is;
        writes_heading = r₁.heading_is;
        two_cuts = record { substitutions = matchers_cut T L p h op oh cut₁ cut₂ r₁.positive up r₂.cut_top; answers = narrower; answers_if = answers_second };
      }
