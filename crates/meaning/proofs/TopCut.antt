-- What a match at cut 1000 says. A matcher makes the pattern the heading itself, since different terms have a lower degree; so one who knows what a match
-- decides, why it is refused and what its sets hold, knows that only the same is found. That is all that is used of the result here.
use mathlib.Core.Path.{◌≡◌, sym as inv, ap, ap₂, ◌∙◌, subst}
use mathlib.Core.Logic.{◌↔◌, ◌⊎◌, inl, inr}
use mathlib.Core.List.{List, [], ◌∷◌}
use mathlib.Core.Bool.{true, false≢true}
use mathlib.Core.Option.{none}
use Prim.Native.Nat.{ℕ, ◌+◌, ◌≤◌, ◌<◌}
use native.Mathlib.Nat.{not-suc-le-zero, le_of_eq}
use native.Mathlib.Omega.{arith}
use lib.ListN.{length, get_or}
use Rattle.theory.specs.Tree.{Term, Pattern, enc, fill, stands}
use Rattle.theory.specs.Table.{Table, Lawful, OnlyItself, Overₚ, degree, Matcher}
use Rattle.theory.specs.Least.{All}
use Rattle.theory.specs.Faces.{faces, facing}
use Rattle.theory.specs.Match.{at, FirstUnlike}
use Rattle.theory.proofs.Decoding.{fine_over}
use Rattle.theory.proofs.Flat.{degree_top}
use Rattle.theory.proofs.Draw.{over-at}
use Rattle.theory.proofs.Matchers.{reach_worths, worths_clear}
use Rattle.theory.proofs.Present.{present}
use Rattle.theory.proofs.More.{degree_itself}
use Rattle.theory.proofs.Identity.{Ground, degree_identity, matcher_identity, enc_ground, all_symbols, first_unlike}
use Rattle.meaning.specs.Limits.{set_room}
use Rattle.meaning.specs.File.{table_in}
use Rattle.meaning.specs.Refusals.{first, table_rows, SoundFile}
use Rattle.meaning.specs.Calls.{refused, gives, degree_rows, heading_degree, Degrees, degrees, Matched}
use Rattle.meaning.specs.Buffers.{first_position_lem, position_count_lem, holds, DrawnFrom}
use Rattle.meaning.specs.Demands.{WritesTerm, WritesPattern, Demand2-degree, Found, Decides}
use Rattle.meaning.specs.Tables.{SoundTable}
use Rattle.meaning.specs.Matching.{Reasons, SetsAndDegrees}
use Rattle.meaning.specs.TopCut.{MatchersMakeIt, NoVariable, OnlyTheSame, AtTopCut}
use Rattle.meaning.proofs.First.{append-none}
use Rattle.meaning.proofs.Sound.{sound}
use Rattle.meaning.proofs.Trees.{demand2_degree}
use Rattle.meaning.proofs.Drawn.{get_d_any}
use Rattle.meaning.proofs.Wrong.{found_given}

-- THEOREM: the matchers at cut 1000, over a table that is not refused
pub matchers_make_it : (table : List ℕ) → SoundFile table → MatchersMakeIt table
matchers_make_it table e = let s = sound table e in matcher_identity _ s.lawful s.only_itself

same_given : {A : Type 0} (a b : A) → gives a ≡ gives b → a ≡ b
same_given a b q = cc

-- THEOREM: two headings that are not refused have degree 1000 exactly if they are one list
pub same_heading : (table one two : List ℕ) → first (degree_rows table one two) ≡ none → heading_degree table one two ≡ gives 1000 ↔ (one ≡ two)
unfolding degree_rows
same_heading table one two e = (there, back)
  where
    T : Table
    T = table_in table

    s : SoundTable table
    s = sound table (append-none (table_rows table) _ e).0

    q : Demand2-degree table one two (heading_degree table one two)
    q = demand2_degree table one two e

    there : heading_degree table one two ≡ gives 1000 → one ≡ two
    there g =
        let d : degree T q.t q.u ≡ 1000 = same_given _ _ (inv q.published ∙ g) in
        q.writes_one.holds.is ∙ ap enc (degree_identity T s.lawful s.only_itself q.t q.u (le_of_eq (inv d))) ∙ inv q.writes_two.holds.is

    back : one ≡ two → heading_degree table one two ≡ gives 1000
    back g =
        let same : q.t ≡ q.u = q.writes_two.only q.t (subst (λ l. WritesTerm T l q.t) g q.writes_one.holds) in
        q.published ∙ ap gives (ap (degree T q.t) (inv same) ∙ degree_itself T s.lawful q.t q.writes_one.holds.over)

module _ (T : Table) (L : Lawful T) (own : OnlyItself T) (small : T.size ≤ set_room) (pattern heading : List ℕ)
    (p : Pattern) (wp : WritesPattern T pattern p) (h : Term) (wh : WritesTerm T heading h) (r : Matched)
    (decides : Decides T 1000 p h r) (reasons : Reasons T 1000 p h pattern r)
    (says : (low high : ℕ) → r.answer ≡ gives (degrees low high) → SetsAndDegrees T 1000 p h r low high) where
  op : Overₚ T p
  op = fine_over T true p wp.fine

  makes_it : (σ : ℕ → Term) → Matcher T 1000 p h σ ↔ (fill σ p ≡ h)
  makes_it = matcher_identity T L own p h wh.over

  -- ---- an answered match

  module _ (f : Found T 1000 p h r) where
    -- a matcher
    abbrev σ : ℕ → Term
    σ = f.is_lowest.reached.0

    m : Matcher T 1000 p h σ
    m = f.is_lowest.reached.1

    top : (n : ℕ) (τ : ℕ → Term) → Matcher T 1000 p h τ → degree T (fill τ p) h ≡ n → n ≡ 1000
    top n τ t e = omega (arith, t.reaches, degree_top T L (fill τ p) h)

    both : degrees f.lowest f.highest ≡ degrees 1000 1000
    both =
        let l = f.is_lowest.reached in
        let g = f.is_highest.reached in
        ap₂ degrees (top f.lowest l.0 l.1 l.2) (top f.highest g.0 g.1 g.2)

    makes : (τ : ℕ → Term) → ((v : ℕ) → stands v p ≡ true → DrawnFrom T r.spans r.sets v (τ v)) ↔ (fill τ p ≡ h)
    makes τ = ((λ d. (makes_it τ).0 ((f.matchers τ).1 d)), (λ e. (f.matchers τ).0 ((makes_it τ).1 e)))

    module _ (v : ℕ) (s : stands v p ≡ true) (k : ℕ) (b : k < position_count_lem r.spans v) where
      -- at the variable's first facing subterm a set has the symbol that stands there, and no other
      same_symbol : (ts : List Term) → 0 < length ts → (x y : ℕ) → All (λ t. 1000 ≤ T.deg x (at T t k)) ts → All (λ t. 1000 ≤ T.deg y (at T t k)) ts → x ≡ y
      same_symbol [] l x y a c = absurd (not-suc-le-zero l)
      same_symbol (t ∷ ts) l x y a c =
          own x (at T t k) (omega (arith, a.0, L.top x (at T t k))) ∙ inv (own y (at T t k) (omega (arith, c.0, L.top y (at T t k))))

      faced : 0 < length (facing v (faces p h))
      faced = present T L 1000 (omega arith) v p h op wh.over (worths_clear T σ 1000 (faces p h) (reach_worths T L p h op wh.over σ 1000 m.reaches)) s

      from : DrawnFrom T r.spans r.sets v (σ v)
      from = (f.matchers σ).0 m v s

      inside : k < length (enc (σ v))
      inside = omega (arith, from.as_many)

      abbrev symbol : ℕ
      symbol = get_or (enc (σ v)) k 0

      known : symbol < set_room
      known = omega (arith, get_d_any (enc (σ v)) k 0 T.size inside, over-at T (σ v) (m.over v s) k inside, small)

      one : (x : ℕ) → x < set_room → holds r.sets (first_position_lem r.spans v + k) x ≡ true ↔ (x ≡ symbol)
      one x l =
          let near = (says f.lowest f.highest f.answered).sets v s k b in (
            (λ q. same_symbol (facing v (faces p h)) faced x symbol ((near x l).0 q).1 ((near symbol known).0 (from.symbols k inside)).1),
            (λ e. subst (λ y. holds r.sets (first_position_lem r.spans v + k) y ≡ true) (inv e) (from.symbols k inside)),
          )

  itself : (d : Degrees) → r.answer ≡ gives d → OnlyTheSame T p h r d
  itself d e =
      let f = found_given T 1000 p h r decides d e in
      record { both_top = same_given d (degrees f.lowest f.highest) (inv e ∙ f.answered) ∙ both f; drawn = makes f; one_symbol = λ v s k b. (symbol f v s k b, known f v s k b, one f v s k b) }

  -- ---- a pattern without variables

  module _ (n : NoVariable pattern) where
    ground : Ground p
    ground = all_symbols p (subst NoVariable wp.is n)

    -- refused by 9 it is where the lists differ, and by 10 never
    by9 : (i : ℕ) → r.answer ≡ refused 9 i → FirstUnlike pattern heading i
    by9 i e = rw (wp.is, wh.is) (first_unlike T L own p h ground op wh.over i (reasons.nine i e).clash)

    by10 : (v : ℕ) → r.answer ≡ refused 10 v → ⊥
    by10 v e = false≢true (inv (ground v) ∙ (reasons.ten v e).standing)

    equal : pattern ≡ heading → r.answer ≡ gives (degrees 1000 1000)
    equal e = let f = decides.otherwise (λ q. never q.0 q.1) in f.answered ∙ ap gives (both f)
      where
        never : (place : ℕ) → (r.answer ≡ refused 9 place) ⊎ (r.answer ≡ refused 10 place) → ⊥
        never place (inl q) = (by9 place q).unlike (ap (λ l. get_or l place 0) e)
        never place (inr q) = by10 place q

    -- a matcher makes the lists equal
    same_list : (σ : ℕ → Term) → Matcher T 1000 p h σ → pattern ≡ heading
    same_list σ m = wp.is ∙ inv (enc_ground σ p ground) ∙ ap enc ((makes_it σ).0 m) ∙ inv wh.is

    other : (pattern ≡ heading → ⊥) → (place : ℕ) × (r.answer ≡ refused 9 place) × FirstUnlike pattern heading place
    other u = let q = decides.no_match.1 (λ σ m. u (same_list σ m)) in go q.0 q.1
      where
        go : (place : ℕ) → (r.answer ≡ refused 9 place) ⊎ (r.answer ≡ refused 10 place) → (place : ℕ) × (r.answer ≡ refused 9 place) × FirstUnlike pattern heading place
        go place (inl q) = (place, q, by9 place q)
        go place (inr q) = absurd (by10 place q)

  -- THEOREM: a match at cut 1000
  pub at_top_cut : AtTopCut T p h pattern heading r
  at_top_cut =
      record {
        ground = λ n. record { equal = equal n; other = other n };
        no_match = ((λ q σ e. decides.no_match.0 q σ ((makes_it σ).1 e)), (λ q. decides.no_match.1 (λ σ m. q σ ((makes_it σ).0 m))));
        answered = itself;
      }
