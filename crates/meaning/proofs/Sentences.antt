-- The sets and degrees of an answered match: what one reads at a variable's position is the set packed there, whose test asks for just that
-- nearness; and degrees that matchers reach lie between the cut and the top.
use mathlib.Core.Path.{◌≡◌, ap, ◌∙◌}
use mathlib.Core.Logic.{◌↔◌}
use mathlib.Core.List.{List, ◌++◌}
use mathlib.Core.Bool.{Bool, true, false}
use mathlib.Core.Option.{none}
use Prim.Native.Nat.{ℕ, ◌+◌, ◌-◌, ◌≤◌, ◌<◌}
use native.Mathlib.Omega.{arith}
use lib.ListN.{length, get_or}
use Rattle.theory.specs.Tree.{Term, Pattern, stands}
use Rattle.theory.specs.Table.{Table, Over}
use Rattle.theory.specs.Least.{All}
use Rattle.theory.specs.Faces.{Face, faces, facing}
use Rattle.theory.specs.Match.{at, in_set, lowest_of_lem, highest_of, Matches}
use Rattle.theory.specs.Verdict.{MeansMatch}
use Rattle.theory.specs.Read.{Fine}
use Rattle.theory.specs.Decode.{pattern_of, term_of}
use Rattle.theory.proofs.Lemmas.{all_of_least, least_of_all}
use Rattle.theory.proofs.Decoding.{fine_over}
use Rattle.theory.proofs.Draw.{in_set_lem, set_symbol, set-shared}
use Rattle.theory.proofs.Matchers.{none_clear}
use Rattle.theory.proofs.Present.{present}
use Rattle.theory.proofs.Verdict.{stands_small}
use Rattle.theory.proofs.Corollaries.{cut_low, low_high, high_top, no_variables}
use Rattle.meaning.specs.Limits.{set_room}
use Rattle.meaning.specs.File.{table_in}
use Rattle.meaning.specs.Refusals.{first}
use Rattle.meaning.specs.Packing.{order, packed_spans, packed_sets, sets_of}
use Rattle.meaning.specs.Calls.{gives, degrees, zeros, faces_in, match_rows, matched, later_spans, later_sets, match_call}
use Rattle.meaning.specs.Buffers.{first_position_lem, position_count_lem, holds}
use Rattle.meaning.specs.Demands.{Accepted}
use Rattle.meaning.specs.Matching.{SetsAndDegrees}
use Rattle.meaning.proofs.First.{unless_gives}
use Rattle.meaning.proofs.Packing.{set_at}
use Rattle.meaning.proofs.Drawn.{Packed}
use Rattle.meaning.proofs.Matched.{Ready, ready, given_none, match_ends, packed, spans_are, sets_are}

-- ---- one set

-- a symbol is in the set exactly if it is the table's and near enough to each
members : (T : Table) (c : ℕ) → c ≤ 1000 → (ts : List Term) (k s : ℕ) → in_set T c ts k s ≡ true ↔ ((s < T.size) × All (λ t. c ≤ T.deg s (at T t k)) ts)
members T c cut ts k s = (
  (λ e. (set_symbol T c ts k s e, all_of_least (λ t. T.deg s (at T t k)) c ts (set-shared T c ts k s e))),
  (λ q. in_set_lem T c ts k s q.0 (least_of_all (λ t. T.deg s (at T t k)) c ts cut q.1)),
)

-- what is held at a position of a packed variable
held_at : (T : Table) (c : ℕ) (fs : List Face) (v : ℕ) (spans sets : List ℕ) → Packed T c fs v spans sets → (k : ℕ) → k < position_count_lem spans v → (s : ℕ) → s < set_room
    → holds sets (first_position_lem spans v + k) s ≡ in_set T c (facing v fs) k s
held_at T c fs v spans sets b k l s m =
    b.held (first_position_lem spans v + k) s m
    ∙ ap (λ i. get_or (sets_of T c fs (order fs)) (i + k) (λ s. false) s) b.starts
    ∙ ap (λ (set : ℕ → Bool). set s) (set_at T c fs (order fs) v k b.standing (omega (arith, b.counts)))

module _ (table pattern heading : List ℕ) (cut : ℕ) (spans sets : List ℕ) (a : Accepted table pattern heading cut spans sets) where
  abbrev T : Table
  T = table_in table

  abbrev p : Pattern
  p = pattern_of (table_in table) pattern

  abbrev h : Term
  h = term_of (table_in table) heading

  abbrev fs : List Face
  fs = faces (pattern_of (table_in table) pattern) (term_of (table_in table) heading)

  -- THEOREM: the sets and the degrees of an answered match
  pub sentences : (low high : ℕ) → matched table pattern heading cut spans sets ≡ gives (degrees low high)
      → SetsAndDegrees T cut p h (match_call table pattern heading cut spans sets) low high
  unfolding matched faces_in
  sentences low high g =
      record {
        sets = λ v s k l x m. rw (held v s k l x m) (members T cut r.cut_top (facing v fs) k x);
        cut_lowest = omega (arith, d, cut_low T r.lawful cut p h _ _ w.lowest w.highest);
        lowest-highest = omega (arith, d, low_high T r.lawful cut p h _ _ w.lowest w.highest);
        highest_top = omega (arith, d, high_top T r.lawful cut p h _ _ w.lowest w.highest);
        no_variables = λ n. omega (arith, d, no_variables T r.lawful cut p h _ _ w.lowest w.highest n);
      }
    where
      r : Ready table pattern heading cut
      r = ready table pattern heading cut spans sets a

      u : (first (match_rows table pattern heading cut spans sets) ≡ none) × (degrees (lowest_of_lem T cut fs) (highest_of T cut fs) ≡ degrees low high)
      u = unless_gives (first (match_rows table pattern heading cut spans sets)) (degrees (lowest_of_lem T cut fs) (highest_of T cut fs)) (degrees low high) g

      d : (lowest_of_lem T cut fs ≡ low) × (highest_of T cut fs ≡ high)
      d = let e = u.1 in (cc, cc)

      q : Matches T cut p h × MeansMatch T cut p h (lowest_of_lem T cut fs) (highest_of T cut fs)
      q = given_none _ _ _ (match_ends table pattern heading cut spans sets a r) u.0

      w : MeansMatch T cut p h (lowest_of_lem T cut fs) (highest_of T cut fs)
      w = q.1

      op : Fine T true p
      op = r.pattern_is.holds.fine

      oh : Over T h
      oh = r.heading_is.holds.over

      held : (v : ℕ) → stands v p ≡ true → (k : ℕ) → k < position_count_lem (later_spans table pattern heading cut spans sets) v → (s : ℕ) → s < set_room
          → holds (later_sets table pattern heading cut spans sets) (first_position_lem (later_spans table pattern heading cut spans sets) v + k) s ≡ in_set T cut (facing v fs) k s
      held v s =
          let m = length spans - length (packed_spans T cut fs) in
          let n = length sets - length (packed_sets T cut fs) in
          let some = present T r.lawful cut r.positive v p h (fine_over T true p op) oh (none_clear T cut fs q.0.clear) s in
          rw (spans_are table pattern heading cut spans sets u.0, sets_are table pattern heading cut spans sets u.0)
          (held_at T cut fs v (packed_spans T cut fs ++ zeros m) (packed_sets T cut fs ++ zeros n) (packed T cut fs m n v (stands_small T v p op s) some))
