-- Further laws: the degree of a term with itself and in either order; a richer table; a clash's place; a variable's own highest.
use mathlib.Core.Path.{◌≡◌, refl, sym as inv, ◌∙◌, subst}
use mathlib.Core.Logic.{◌⊎◌, inl, inr}
use mathlib.Core.List.{List, [], ◌∷◌}
use mathlib.Core.Bool.{Bool, true, false, cond, false≢true}
use mathlib.Core.Option.{Option, none, some as just, some-ne-none, some-injective}
use Prim.Native.Nat.{ℕ, zero, suc, ◌≤◌, ◌<◌}
use native.Mathlib.Nat.{le_trans, not-suc-le-zero}
use native.Mathlib.Omega.{arith}
use lib.Dec.{ltb}
use lib.ListN.{get_or}
use borrow.Author.Tests.{ltb-true, ltb-false}
use Rattle.theory.specs.Tree.{Term, node, Terms, ∅, ◌▹◌}
use Rattle.theory.specs.Table.{Table, Lawful, Over, Overs, degree, degrees}
use Rattle.theory.specs.Faces.{Face, meets, binds}
use Rattle.theory.specs.Match.{shared, in_set, highest_at, clash, one_on, ClashAt}
use Rattle.theory.specs.Least.{some}
use Rattle.theory.proofs.Lemmas.{some_of, le_highest, Chosen, the_most}
use Rattle.theory.proofs.Flat.{degree_min}
use Rattle.theory.proofs.Draw.{in_set_lem, set_symbol, set-shared}

module _ (T : Table) (L : Lawful T) where
  mutual
    unfolding degrees

    -- LAW: a term over the table has degree 1000 with itself
    pub degree_itself : (t : Term) → Over T t → degree T t t ≡ 1000
    degree_itself (node f ts) o = omega (arith, degree_min T L f f ts ts, L.itself f o.0, degrees_itself ts o.2)

    degrees_itself : (ts : Terms) → Overs T ts → degrees T ts ts ≡ 1000
    degrees_itself ∅ o = refl
    degrees_itself (t ▹ ts) o = omega (arith, degree_itself t o.0, degrees_itself ts o.1)

  mutual
    unfolding degrees

    -- LAW: the degree is the same in either order
    pub degree_either : (t u : Term) → degree T t u ≡ degree T u t
    degree_either (node f ts) (node g us) =
        omega (arith, degree_min T L f g ts us, degree_min T L g f us ts, L.either f g, degrees_either ts us)

    degrees_either : (ts us : Terms) → degrees T ts us ≡ degrees T us ts
    degrees_either ∅ ∅ = refl
    degrees_either ∅ (u ▹ us) = refl
    degrees_either (t ▹ ts) ∅ = refl
    degrees_either (t ▹ ts) (u ▹ us) = omega (arith, degree_either t u, degrees_either ts us)

-- a richer table: every degree at least as high
module _ (T R : Table) (Lt : Lawful T) (LR : Lawful R) (more : (a b : ℕ) → T.deg a b ≤ R.deg a b) where
  mutual
    unfolding degrees

    -- LAW: no degree of terms falls
    pub degree_more : (t u : Term) → degree T t u ≤ degree R t u
    degree_more (node f ts) (node g us) = omega (arith, degree_min T Lt f g ts us, degree_min R LR f g ts us, more f g, degrees_more ts us)

    degrees_more : (ts us : Terms) → degrees T ts us ≤ degrees R ts us
    degrees_more ∅ ∅ = omega arith
    degrees_more ∅ (u ▹ us) = omega arith
    degrees_more (t ▹ ts) ∅ = omega arith
    degrees_more (t ▹ ts) (u ▹ us) = omega (arith, degree_more t u, degrees_more ts us)

binds≢meets : (v : ℕ) (t : Term) (f g : ℕ) → binds v t ≡ meets f g → ⊥
binds≢meets v t f g e = let z : ◌≡◌ {A = ℕ} 0 1 = cc in omega arith

pub meets_left : (f g f' g' : ℕ) → meets f g ≡ meets f' g' → f ≡ f'
meets_left f g f' g' e = cc

pub meets_right : (f g f' g' : ℕ) → meets f g ≡ meets f' g' → g ≡ g'
meets_right f g f' g' e = cc

-- a clash's place: the face there is of symbols below the cut, and no face before it is
module _ (T : Table) (c : ℕ) where
  pub on_just : (o : Option ℕ) (i : ℕ) → one_on o ≡ just i → (j : ℕ) × ((i ≡ suc j) × (o ≡ just j))
  on_just none i e = absurd (some-ne-none i (inv e))
  on_just (just j) i e = (j, (inv (some-injective (suc j) i e), refl))

  -- a face that does not clash, in front
  push : (x : Face) (fs : List Face) (j : ℕ) → ((f g : ℕ) → x ≡ meets f g → c ≤ T.deg f g) → ClashAt T c fs j → ClashAt T c (x ∷ fs) (suc j)
  push x fs j h r = record { pattern = r.pattern; heading = r.heading; inside = omega (arith, r.inside); here = r.here; below = r.below; first = before }
    where
      before : (k f g : ℕ) → k < suc j → get_or (x ∷ fs) k (meets 0 0) ≡ meets f g → c ≤ T.deg f g
      before zero f g l e = h f g e
      before (suc k) f g l e = r.first k f g (omega arith) e

  -- LAW: the place of a clash
  pub clash-at : (fs : List Face) (i : ℕ) → clash T c fs ≡ just i → ClashAt T c fs i
  clash-at [] i e = absurd (some-ne-none i (inv e))
  clash-at (meets f g ∷ fs) i e = go (ltb (T.deg f g) c) refl e (clash-at fs)
    where
      go : (b : Bool) → ltb (T.deg f g) c ≡ b → cond b (just 0) (one_on (clash T c fs)) ≡ just i
          → ((i : ℕ) → clash T c fs ≡ just i → ClashAt T c fs i) → ClashAt T c (meets f g ∷ fs) i
      go true l e more =
          subst (ClashAt T c (meets f g ∷ fs)) (some-injective 0 i e)
          (record { pattern = f; heading = g; inside = omega arith; here = refl; below = ltb-true (T.deg f g) c l; first = λ k f g l e. absurd (not-suc-le-zero l) })
      go false l e more =
          let r = on_just (clash T c fs) i e in
          rw r.1.0 (push (meets f g) fs r.0 (λ f' g' q. rw (← meets_left f g f' g' q, ← meets_right f g f' g' q) (ltb-false (T.deg f g) c l)) (more r.0 r.1.1))
  clash-at (binds v t ∷ fs) i e =
      let r = on_just (clash T c fs) i e in
      rw r.1.0 (push (binds v t) fs r.0 (λ f g q. absurd (binds≢meets v t f g q)) (clash-at fs r.0 r.1.1))

-- a variable's own highest degree is the same at two cuts that both leave it a form
module _ (T : Table) (ts : List Term) (k : ℕ) where
  at_most : (c s : ℕ) → in_set T c ts k s ≡ true → shared T ts k s ≤ highest_at T c ts k
  at_most c s e = rw e at (le_highest T.size (λ s. cond (in_set T c ts k s) (shared T ts k s) 0) s (set_symbol T c ts k s e))

  chosen : (c : ℕ) → some T.size (in_set T c ts k) ≡ true → Chosen (in_set T c ts k) (shared T ts k) T.size (highest_at T c ts k)
  chosen c e = go (the_most (in_set T c ts k) (shared T ts k) T.size)
    where
      go : ((some T.size (in_set T c ts k) ≡ false) × (highest_at T c ts k ≡ 0)) ⊎ Chosen (in_set T c ts k) (shared T ts k) T.size (highest_at T c ts k)
          → Chosen (in_set T c ts k) (shared T ts k) T.size (highest_at T c ts k)
      go (inl q) = absurd (false≢true (inv q.0 ∙ e))
      go (inr s) = s

  pub highest-same : (c d : ℕ) → c ≤ d → some T.size (in_set T d ts k) ≡ true → highest_at T d ts k ≡ highest_at T c ts k
  highest-same c d up e =
      let x = chosen d e in
      let xc : in_set T c ts k x.pick ≡ true = in_set_lem T c ts k x.pick x.below (le_trans up (set-shared T d ts k x.pick x.passes)) in
      let y = chosen c (some_of T.size (in_set T c ts k) x.pick x.below xc) in
      let one : highest_at T d ts k ≤ highest_at T c ts k = omega (arith, x.is, at_most c x.pick xc) in
      let yd : in_set T d ts k y.pick ≡ true =
      in_set_lem T d ts k y.pick y.below (omega (arith, y.is, x.is, set-shared T d ts k x.pick x.passes)) in
      omega (arith, one, y.is, at_most d y.pick yd)
