-- The theorems on a match: when it is answered (1), which its matchers are (2, in `Matchers`), its lowest and highest degree (3),
-- and what a higher cut leaves (4).
use mathlib.Core.Path.{◌≡◌, sym as inv}
use mathlib.Core.Logic.{◌↔◌, ◌⊎◌, inl, inr}
use mathlib.Core.List.{List, [], ◌∷◌}
use mathlib.Core.Bool.{true}
use Prim.Native.Nat.{ℕ, ◌≤◌, ◌<◌}
use native.Mathlib.Nat.{le_refl, le_trans, le_antisymm, le_of_eq}
use native.Mathlib.Omega.{arith}
use Rattle.theory.specs.Tree.{Term, Pattern, fill}
use Rattle.theory.specs.Table.{Table, Lawful, Over, Overₚ, degree, Matcher}
use Rattle.theory.specs.Least.{All, least, some, lowest}
use Rattle.theory.proofs.Lemmas.{least_top, all_of_least, least_of_all, lowest_le, le_lowest}
use Rattle.theory.specs.Faces.{Face, meets, binds, faces, facing, worth}
use Rattle.theory.specs.Match.{at, shared, in_set, positions, formed, lowest_at_lem, highest_at, brings, lowest_of_lem, highest_of, Reaches, Matches, IsLowest, IsHighest}
use Rattle.theory.proofs.Flat.{degree_top}
use Rattle.theory.proofs.Draw.{in_set_lem, set_symbol, set-shared}
use Rattle.theory.proofs.Matchers.{Bound, standing, bound_facing, Clear, none_clear, clear_none, facing-over, worths, worths_clear, worths_reaches, reach_worths, worths_reach}
use Rattle.theory.proofs.Forms.{Form, Symbol, symbol_most, symbol_least, some_form, formed_of, reach_more, more_reach, between}

module _ (T : Table) (L : Lawful T) (p : Pattern) (h : Term) (op : Overₚ T p) (oh : Over T h) where
  -- what faces variable v
  abbrev of : ℕ → List Term
  of v = facing v (faces p h)

  -- a variable's own degree where its positions are rated so
  abbrev own : (List Term → ℕ → ℕ) → ℕ → ℕ
  own rate v = lowest (positions (of v)) (rate (of v))

  module _ (c : ℕ) (pos : 0 < c) (cut : c ≤ 1000) where
    -- what a matcher gives: at every node the cut is reached, and each variable's term reaches it with all that faces it
    pub matcher_reaches : (σ : ℕ → Term) → Matcher T c p h σ → (v : ℕ) → Reaches T c (of v) (σ v)
    matcher_reaches σ m = worths_reaches T σ c (faces p h) (reach_worths T L p h op oh σ c m.reaches)

    -- a form for each variable
    pub forms : (val : List Term → ℕ → ℕ) → ((ts : List Term) (k : ℕ) → some T.size (in_set T c ts k) ≡ true → Symbol T L c pos cut ts k (val ts k))
        → Matches T c p h → (v : ℕ) → Form T L c pos cut (of v) (val (of v))
    forms val sel a v =
        some_form T L c pos cut val sel h oh (of v) (facing-over T p h oh v)
        (bound_facing (λ v. formed T c (of v) ≡ true) v (faces p h) (standing (λ v. formed T c (of v) ≡ true) p h a.forms))

    -- and so a matcher
    pub form_matcher : (val : List Term → ℕ → ℕ) → Matches T c p h → (f : (v : ℕ) → Form T L c pos cut (of v) (val (of v))) → Matcher T c p h (λ v. (f v).term)
    form_matcher val a f =
        record {
          over = λ v s. (f v).over;
          reaches = worths_reach T L p h op oh (λ v. (f v).term) c cut (worths T (λ v. (f v).term) c (faces p h) (none_clear T c (faces p h) a.clear) (λ v. (f v).reaches));
        }

    -- THEOREM 1: a match is answered exactly if a matcher exists
    pub answered : Matches T c p h ↔ ((σ : ℕ → Term) × Matcher T c p h σ)
    answered = (there, back)
      where
        there : Matches T c p h → (σ : ℕ → Term) × Matcher T c p h σ
        there a = let f = forms (highest_at T c) (symbol_most T L c pos cut) a in ((λ v. (f v).term), form_matcher (highest_at T c) a f)

        back : (σ : ℕ → Term) × Matcher T c p h σ → Matches T c p h
        back m =
            record {
              clear = clear_none T c (faces p h) (worths_clear T m.0 c (faces p h) (reach_worths T L p h op oh m.0 c m.1.reaches));
              forms = λ v s. formed_of T L c pos cut (m.0 v) (m.1.over v s) (of v) (facing-over T p h oh v) (matcher_reaches m.0 m.1 v);
            }

    -- ---- the lowest and the highest degree

    -- each term of a matcher over the table, for every variable that faces something
    over_bound : (σ : ℕ → Term) → Matcher T c p h σ → All (Bound (λ v. Over T (σ v))) (faces p h)
    over_bound σ m = standing (λ v. Over T (σ v)) p h m.over

    -- every node brings m exactly if no symbol clashes at m and every position of every variable is rated at least m
    rated : (rate : List Term → ℕ → ℕ) (m : ℕ) → m ≤ 1000 → (Q : ℕ → Type 0) → ((v : ℕ) → Q v → (k : ℕ) → k < positions (of v) → m ≤ rate (of v) k)
        → (fs : List Face) → All (Clear T m) fs → All (Bound Q) fs → All (λ x. m ≤ brings T (own rate) x) fs
    rated rate m b Q q [] cl bo = tt
    rated rate m b Q q (meets f g ∷ fs) cl bo = (cl.0, rated rate m b Q q fs cl.1 bo.1)
    rated rate m b Q q (binds v t ∷ fs) cl bo = (le_lowest (positions (of v)) (rate (of v)) m b (q v bo.0), rated rate m b Q q fs cl.1 bo.1)

    rated_clear : (rate : List Term → ℕ → ℕ) (m : ℕ) (fs : List Face) → All (λ x. m ≤ brings T (own rate) x) fs → All (Clear T m) fs
    rated_clear rate m [] a = tt
    rated_clear rate m (meets f g ∷ fs) a = (a.0, rated_clear rate m fs a.1)
    rated_clear rate m (binds v t ∷ fs) a = (tt, rated_clear rate m fs a.1)

    -- with what holds of the variable besides
    rated_bound : (rate : List Term → ℕ → ℕ) (m : ℕ) (Q : ℕ → Type 0) (fs : List Face) → All (λ x. m ≤ brings T (own rate) x) fs → All (Bound Q) fs
        → All (Bound (λ v. (m ≤ own rate v) × Q v)) fs
    rated_bound rate m Q [] a b = tt
    rated_bound rate m Q (meets f g ∷ fs) a b = (tt, rated_bound rate m Q fs a.1 b.1)
    rated_bound rate m Q (binds v t ∷ fs) a b = ((a.0, b.0), rated_bound rate m Q fs a.1 b.1)

    -- a matcher whose terms share at every position at least what that position is rated has at least the degree so rated
    above : (rate : List Term → ℕ → ℕ) (σ : ℕ → Term) (m : Matcher T c p h σ)
        → ((v : ℕ) → Over T (σ v) → (k : ℕ) → k < positions (of v) → rate (of v) k ≤ shared T (of v) k (at T (σ v) k))
        → least (brings T (own rate)) (faces p h) ≤ degree T (fill σ p) h
    above rate σ m q = worths_reach T L p h op oh σ n top (worths T σ n (faces p h) (rated_clear rate n (faces p h) a) each)
      where
        n : ℕ
        n = least (brings T (own rate)) (faces p h)

        top : n ≤ 1000
        top = least_top (brings T (own rate)) (faces p h)

        a : All (λ x. n ≤ brings T (own rate) x) (faces p h)
        a = all_of_least (brings T (own rate)) n (faces p h) (le_refl n)

        go : (v : ℕ) → (of v ≡ []) ⊎ ((n ≤ own rate v) × Over T (σ v)) → Reaches T n (of v) (σ v)
        go v (inl e) = rw e tt
        go v (inr r) =
            reach_more T L c pos cut (σ v) r.1 (of v) (facing-over T p h oh v) (matcher_reaches σ m v) n top
            (λ k l. omega (arith, r.0, lowest_le (positions (of v)) (rate (of v)) k l, q v r.1 k l))

        each : (v : ℕ) → Reaches T n (of v) (σ v)
        each v = go v (bound_facing (λ v. (n ≤ own rate v) × Over T (σ v)) v (faces p h) (rated_bound rate n (λ v. Over T (σ v)) (faces p h) a (over_bound σ m)))

    -- and one whose terms share at most that has at most that degree
    beneath : (rate : List Term → ℕ → ℕ) (σ : ℕ → Term) (m : Matcher T c p h σ)
        → ((v : ℕ) → Over T (σ v) → (k : ℕ) → k < positions (of v) → shared T (of v) k (at T (σ v) k) ≤ rate (of v) k)
        → degree T (fill σ p) h ≤ least (brings T (own rate)) (faces p h)
    beneath rate σ m q =
        least_of_all (brings T (own rate)) n (faces p h) top
        (rated rate n top (λ v. Over T (σ v)) at_each (faces p h) (worths_clear T σ n (faces p h) a) (over_bound σ m))
      where
        n : ℕ
        n = degree T (fill σ p) h

        top : n ≤ 1000
        top = degree_top T L (fill σ p) h

        a : All (λ x. n ≤ worth T σ x) (faces p h)
        a = reach_worths T L p h op oh σ n (le_refl n)

        at_each : (v : ℕ) → Over T (σ v) → (k : ℕ) → k < positions (of v) → n ≤ rate (of v) k
        at_each v o k l =
            le_trans (more_reach T L c pos cut (σ v) o (of v) (facing-over T p h oh v) (matcher_reaches σ m v) n top (worths_reaches T σ n (faces p h) a v) k l) (q v o k l)

    -- THEOREM 3: the lowest and the highest degree of an answered match
    pub lowest_is : Matches T c p h → IsLowest T c p h (lowest_of_lem T c (faces p h))
    lowest_is a = record { reached = (σ, m, le_antisymm most (bound σ m)); bounds = bound }
      where
        bound : (σ : ℕ → Term) → Matcher T c p h σ → lowest_of_lem T c (faces p h) ≤ degree T (fill σ p) h
        bound σ m = above (lowest_at_lem T c) σ m (λ v o k l. (between T L c pos cut (σ v) o (of v) (facing-over T p h oh v) (matcher_reaches σ m v) k l).0)

        f : (v : ℕ) → Form T L c pos cut (of v) (lowest_at_lem T c (of v))
        f = forms (lowest_at_lem T c) (symbol_least T L c pos cut) a

        σ : ℕ → Term
        σ v = (f v).term

        m : Matcher T c p h σ
        m = form_matcher (lowest_at_lem T c) a f

        most : degree T (fill σ p) h ≤ lowest_of_lem T c (faces p h)
        most = beneath (lowest_at_lem T c) σ m (λ v o k l. le_of_eq ((f v).values k l))

    pub highest_is : Matches T c p h → IsHighest T c p h (highest_of T c (faces p h))
    highest_is a = record { reached = (σ, m, le_antisymm (bound σ m) least'); bounds = bound }
      where
        bound : (σ : ℕ → Term) → Matcher T c p h σ → degree T (fill σ p) h ≤ highest_of T c (faces p h)
        bound σ m = beneath (highest_at T c) σ m (λ v o k l. (between T L c pos cut (σ v) o (of v) (facing-over T p h oh v) (matcher_reaches σ m v) k l).1)

        f : (v : ℕ) → Form T L c pos cut (of v) (highest_at T c (of v))
        f = forms (highest_at T c) (symbol_most T L c pos cut) a

        σ : ℕ → Term
        σ v = (f v).term

        m : Matcher T c p h σ
        m = form_matcher (highest_at T c) a f

        least' : highest_of T c (faces p h) ≤ degree T (fill σ p) h
        least' = above (highest_at T c) σ m (λ v o k l. le_of_eq (inv ((f v).values k l)))

  -- ---- THEOREM 4: two cuts

  module _ (c d : ℕ) (pos : 0 < c) (up : c ≤ d) (cut : d ≤ 1000) where
    -- the matchers at the higher cut are those at the lower one that reach it
    pub matchers_cut : (σ : ℕ → Term) → Matcher T d p h σ ↔ (Matcher T c p h σ × (d ≤ degree T (fill σ p) h))
    matchers_cut σ = ((λ m. (record { over = m.over; reaches = omega (arith, m.reaches) }, m.reaches)), (λ r. record { over = r.0.over; reaches = r.1 }))

    -- the higher cut is answered exactly if the lower one is and its highest degree reaches the higher cut
    pub answered_cut : Matches T d p h ↔ (Matches T c p h × (d ≤ highest_of T c (faces p h)))
    answered_cut = (there, back)
      where
        there : Matches T d p h → Matches T c p h × (d ≤ highest_of T c (faces p h))
        there a =
            let m = (answered d (omega arith) cut).0 a in
            let m' = ((matchers_cut m.0).0 m.1).0 in
            let a' : Matches T c p h = (answered c pos (omega arith)).1 (m.0, m') in
            (a', le_trans m.1.reaches ((highest_is c pos (omega arith) a').bounds m.0 m'))

        back : Matches T c p h × (d ≤ highest_of T c (faces p h)) → Matches T d p h
        back r =
            let q = (highest_is c pos (omega arith) r.0).reached in
            (answered d (omega arith) cut).1 (q.0, (matchers_cut q.0).1 (q.1, le_trans r.1 (le_of_eq (inv q.2))))

    -- the highest degree is the same at both
    pub highest_cut : Matches T d p h → highest_of T d (faces p h) ≡ highest_of T c (faces p h)
    highest_cut a = le_antisymm one other
      where
        a' : Matches T c p h
        a' = (answered_cut.0 a).0

        one : highest_of T d (faces p h) ≤ highest_of T c (faces p h)
        one =
            let q = (highest_is d (omega arith) cut a).reached in
            le_trans (le_of_eq (inv q.2)) ((highest_is c pos (omega arith) a').bounds q.0 ((matchers_cut q.0).0 q.1).0)

        other : highest_of T c (faces p h) ≤ highest_of T d (faces p h)
        other =
            let q = (highest_is c pos (omega arith) a').reached in
            let r : d ≤ degree T (fill q.0 p) h = le_trans (answered_cut.0 a).1 (le_of_eq (inv q.2)) in
            le_trans (le_of_eq (inv q.2)) ((highest_is d (omega arith) cut a).bounds q.0 ((matchers_cut q.0).1 (q.1, r)))

    -- each set at the higher cut is part of the set at the lower one
    pub sets_cut : (ts : List Term) (k s : ℕ) → in_set T d ts k s ≡ true → in_set T c ts k s ≡ true
    sets_cut ts k s e = in_set_lem T c ts k s (set_symbol T d ts k s e) (le_trans up (set-shared T d ts k s e))
