-- A substitution is a matcher exactly if it is drawn from the sets.
use mathlib.Core.Path.{◌≡◌, refl, sym as inv, ap, ◌∙◌, subst}
use mathlib.Core.Logic.{◌↔◌, ◌⊎◌, inl, inr}
use mathlib.Core.List.{List, [], ◌∷◌, ◌++◌}
use mathlib.Core.Bool.{Bool, true, false, ◌&&◌, ◌||◌, false≢true, cond}
use mathlib.Core.Option.{Option, none, some as just, some-ne-none}
use Prim.Native.Nat.{ℕ, zero, suc, ◌+◌, ◌-◌, ◌≤◌, ◌<◌}
use native.Mathlib.Nat.{not-suc-le-zero}
use native.Mathlib.Omega.{arith}
use lib.ListN.{length, get_or}
use lib.Dec.{ltb, leb, eqb}
use borrow.Author.Tests.{ltb-true, ltb-false, le-ltb, leb-true, lt-ltb, le-leb, eqb-true, eq-eqb}
use Rattle.theory.specs.Tree.{Term, node, Terms, ∅, ◌▹◌, Pattern, var, sym, Patterns, ∅ₚ, ◌▸◌, enc, encs, fill, stands, stands_in}
use Rattle.theory.specs.Table.{Table, Lawful, Over, Overs, Overₚ, Oversₚ, degree, Matcher}
use Rattle.theory.specs.Least.{All, least}
use Rattle.theory.proofs.Lemmas.{all_append, all_get_d, all_of_least, least_of_all, or_left, or_right}
use Rattle.theory.specs.Faces.{Face, meets, binds, faces, faces_of, facing, keep, worth}
use Rattle.theory.proofs.Score.{score}
use Rattle.theory.specs.Match.{size, at, shared, in_set, positions, clash, one_on, Reaches, Drawn, DrawnAll}
use Rattle.theory.proofs.Draw.{drawn}

-- ---- lists of faces

-- Q holds of every variable that faces something
abbrev pub Bound : (ℕ → Type 0) → Face → Type 0
Bound Q (meets f g) = Unit {0}
Bound Q (binds v t) = Q v

-- what holds of the variables that stand in the pattern holds of those that face something
mutual
  pub standing : (Q : ℕ → Type 0) (p : Pattern) (h : Term) → ((v : ℕ) → stands v p ≡ true → Q v) → All (Bound Q) (faces p h)
  standing Q (var w) h q = (q w (eq-eqb w w refl), tt)
  standing Q (sym f ps) (node g ts) q = (tt, standings Q ps ts q)

  standings : (Q : ℕ → Type 0) (ps : Patterns) (ts : Terms) → ((v : ℕ) → stands_in v ps ≡ true → Q v) → All (Bound Q) (faces_of ps ts)
  standings Q ∅ₚ ts q = tt
  standings Q (p ▸ ps) ∅ q = tt
  standings Q (p ▸ ps) (t ▹ ts) q =
      all_append (Bound Q) (faces p t) (faces_of ps ts)
      (standing Q p t (λ v e. q v (or_left (stands v p) (stands_in v ps) e)))
      (standings Q ps ts (λ v e. q v (or_right (stands v p) (stands_in v ps) e)))

pub bound_facing : (Q : ℕ → Type 0) (v : ℕ) (fs : List Face) → All (Bound Q) fs → (facing v fs ≡ []) ⊎ Q v
bound_facing Q v [] h = inl refl
bound_facing Q v (meets f g ∷ fs) h = bound_facing Q v fs h.1
bound_facing Q v (binds w t ∷ fs) h = go (eqb v w) refl (bound_facing Q v fs h.1)
  where
    go : (b : Bool) → eqb v w ≡ b → (facing v fs ≡ []) ⊎ Q v → (keep b t (facing v fs) ≡ []) ⊎ Q v
    go true e r = inr (subst Q (inv (eqb-true v w e)) h.0)
    go false e r = r

-- what holds of each subterm that a variable faces, of each variable
module _ (Q : ℕ → Term → Type 0) where
  abbrev pub Faced : Face → Type 0
  Faced (meets f g) = Unit {0}
  Faced (binds v t) = Q v t

  pub faced_facing : (fs : List Face) → All Faced fs → (v : ℕ) → All (Q v) (facing v fs)
  faced_facing [] h v = tt
  faced_facing (meets f g ∷ fs) h v = faced_facing fs h.1 v
  faced_facing (binds w t ∷ fs) h v = go (eqb v w) refl (faced_facing fs h.1 v)
    where
      go : (b : Bool) → eqb v w ≡ b → All (Q v) (facing v fs) → All (Q v) (keep b t (facing v fs))
      go true e r = (subst (λ x. Q x t) (inv (eqb-true v w e)) h.0, r)
      go false e r = r

  pub facing_faced : (fs : List Face) → ((v : ℕ) → All (Q v) (facing v fs)) → All Faced fs
  facing_faced [] h = tt
  facing_faced (meets f g ∷ fs) h = (tt, facing_faced fs h)
  facing_faced (binds w t ∷ fs) h = (head (rw (eq-eqb w w refl) at (h w)), facing_faced fs (λ v. rest v (eqb v w) (h v)))
    where
      head : Q w t × All (Q w) (facing w fs) → Q w t
      head q = q.0

      rest : (v : ℕ) (b : Bool) → All (Q v) (keep b t (facing v fs)) → All (Q v) (facing v fs)
      rest v true q = q.1
      rest v false q = q

-- ---- clashes

pub on_none : (o : Option ℕ) → one_on o ≡ none → o ≡ none
on_none none e = refl
on_none (just i) e = absurd (some-ne-none (suc i) e)

module _ (T : Table) where
  -- the node does not clash
  abbrev pub Clear : ℕ → Face → Type 0
  Clear c (meets f g) = c ≤ T.deg f g
  Clear c (binds v t) = Unit {0}

  pub clear_none : (c : ℕ) (fs : List Face) → All (Clear c) fs → clash T c fs ≡ none
  clear_none c [] h = refl
  clear_none c (meets f g ∷ fs) h = rw (le-ltb (T.deg f g) c h.0, clear_none c fs h.1)
  clear_none c (binds v t ∷ fs) h = rw (clear_none c fs h.1)

  pub none_clear : (c : ℕ) (fs : List Face) → clash T c fs ≡ none → All (Clear c) fs
  none_clear c [] e = tt
  none_clear c (meets f g ∷ fs) e = let r = go (ltb (T.deg f g) c) refl e in (r.0, none_clear c fs r.1)
    where
      go : (b : Bool) → ltb (T.deg f g) c ≡ b → cond b (just 0) (one_on (clash T c fs)) ≡ none → (c ≤ T.deg f g) × (clash T c fs ≡ none)
      go true l q = absurd (some-ne-none 0 q)
      go false l q = (ltb-false (T.deg f g) c l, on_none (clash T c fs) q)
  none_clear c (binds v t ∷ fs) e = (tt, none_clear c fs (on_none (clash T c fs) e))

  -- ---- the subterms that face variables are terms over the table
  mutual
    faces_over : (p : Pattern) (h : Term) → Over T h → All (Faced (λ v t. Over T t)) (faces p h)
    faces_over (var v) h o = (o, tt)
    faces_over (sym f ps) (node g ts) o = (tt, faces_of_over ps ts o.2)

    faces_of_over : (ps : Patterns) (ts : Terms) → Overs T ts → All (Faced (λ v t. Over T t)) (faces_of ps ts)
    faces_of_over ∅ₚ ts o = tt
    faces_of_over (p ▸ ps) ∅ o = tt
    faces_of_over (p ▸ ps) (t ▹ ts) o =
        all_append (Faced (λ v t. Over T t)) (faces p t) (faces_of ps ts) (faces_over p t o.0) (faces_of_over ps ts o.1)

  pub facing-over : (p : Pattern) (h : Term) → Over T h → (v : ℕ) → All (Over T) (facing v (faces p h))
  facing-over p h o = faced_facing (λ v t. Over T t) (faces p h) (faces_over p h o)

  -- ---- every node brings m exactly if no symbol clashes and every variable's term reaches m with all that faces it
  pub worths : (σ : ℕ → Term) (m : ℕ) (fs : List Face) → All (Clear m) fs → ((v : ℕ) → Reaches T m (facing v fs) (σ v)) → All (λ x. m ≤ worth T σ x) fs
  worths σ m fs cl r = go fs cl (facing_faced (λ v t. m ≤ degree T (σ v) t) fs r)
    where
      go : (xs : List Face) → All (Clear m) xs → All (Faced (λ v t. m ≤ degree T (σ v) t)) xs → All (λ x. m ≤ worth T σ x) xs
      go [] a b = tt
      go (meets f g ∷ xs) a b = (a.0, go xs a.1 b.1)
      go (binds v t ∷ xs) a b = (b.0, go xs a.1 b.1)

  pub worths_clear : (σ : ℕ → Term) (m : ℕ) (fs : List Face) → All (λ x. m ≤ worth T σ x) fs → All (Clear m) fs
  worths_clear σ m [] a = tt
  worths_clear σ m (meets f g ∷ xs) a = (a.0, worths_clear σ m xs a.1)
  worths_clear σ m (binds v t ∷ xs) a = (tt, worths_clear σ m xs a.1)

  pub worths_reaches : (σ : ℕ → Term) (m : ℕ) (fs : List Face) → All (λ x. m ≤ worth T σ x) fs → (v : ℕ) → Reaches T m (facing v fs) (σ v)
  worths_reaches σ m fs a = faced_facing (λ v t. m ≤ degree T (σ v) t) fs (go fs a)
    where
      go : (xs : List Face) → All (λ x. m ≤ worth T σ x) xs → All (Faced (λ v t. m ≤ degree T (σ v) t)) xs
      go [] a = tt
      go (meets f g ∷ xs) a = (tt, go xs a.1)
      go (binds v t ∷ xs) a = (a.0, go xs a.1)

-- ---- the matchers

module _ (T : Table) (L : Lawful T) (p : Pattern) (h : Term) (op : Overₚ T p) (oh : Over T h) where
  -- the filled pattern reaches m exactly if every node brings m
  pub reach_worths : (σ : ℕ → Term) (m : ℕ) → m ≤ degree T (fill σ p) h → All (λ x. m ≤ worth T σ x) (faces p h)
  reach_worths σ m r = all_of_least (worth T σ) m (faces p h) (rw (score T L σ p h op oh) at r)

  pub worths_reach : (σ : ℕ → Term) (m : ℕ) → m ≤ 1000 → All (λ x. m ≤ worth T σ x) (faces p h) → m ≤ degree T (fill σ p) h
  worths_reach σ m b a = rw (score T L σ p h op oh) (least_of_all (worth T σ) m (faces p h) b a)

  -- THEOREM 2: the matchers are what is drawn from the sets
  pub matchers : (c : ℕ) → 0 < c → c ≤ 1000 → (σ : ℕ → Term) → Matcher T c p h σ ↔ DrawnAll T c p h σ
  matchers c pos b σ = (there, back)
    where
      fs : List Face
      fs = faces p h

      there : Matcher T c p h σ → DrawnAll T c p h σ
      there m =
          let a : All (λ x. c ≤ worth T σ x) (faces p h) = reach_worths σ c m.reaches in
          record {
            clear = clear_none T c (faces p h) (worths_clear T σ c (faces p h) a);
            each = λ v s. (drawn T L (σ v) (m.over v s) c pos b (facing v (faces p h)) (facing-over T p h oh v)).0 (worths_reaches T σ c (faces p h) a v);
          }

      back : DrawnAll T c p h σ → Matcher T c p h σ
      back d = record { over = λ v s. (d.each v s).over; reaches = worths_reach σ c b (worths T σ c (faces p h) (none_clear T c (faces p h) d.clear) each') }
        where
          R : ℕ → Type 0
          R v = Reaches T c (facing v (faces p h)) (σ v)

          each'' : (v : ℕ) → stands v p ≡ true → R v
          each'' v s = (drawn T L (σ v) (d.each v s).over c pos b (facing v (faces p h)) (facing-over T p h oh v)).1 (d.each v s)

          go : (v : ℕ) → (facing v (faces p h) ≡ []) ⊎ R v → R v
          go v (inl e) = rw e tt
          go v (inr r) = r

          each' : (v : ℕ) → R v
          each' v = go v (bound_facing R v (faces p h) (standing R p h each''))
