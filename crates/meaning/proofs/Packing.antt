-- Packing: each variable's sets stand behind those of the variables before it, so one reads there what was packed.
use mathlib.Core.Path.{◌≡◌, refl, sym as inv, ap, ◌∙◌, subst}
use mathlib.Core.List.{List, [], ◌∷◌, ◌++◌}
use mathlib.Core.Bool.{Bool, true, false, cond, false≢true}
use Prim.Native.Nat.{ℕ, zero, suc, ◌+◌, ◌*◌, ◌<◌}
use native.Mathlib.Nat.{not-suc-le-zero, mul-le-mul_left}
use native.Mathlib.Omega.{arith}
use lib.Dec.{eqb}
use lib.Seq.{get_or-append-add}
use lib.ListN.{length, get_or, length-append, get_or-append}
use borrow.Author.Tests.{eqb-true, eqb-false, ne_eqb}
use Rattle.theory.specs.Tree.{Term}
use Rattle.theory.specs.Table.{Table}
use Rattle.theory.specs.Faces.{Face, meets, binds, facing, keep}
use Rattle.theory.specs.Match.{in_set}
use Rattle.theory.proofs.Lemmas.{last_or_below}
use Rattle.meaning.specs.Limits.{variable_count, span_width}
use Rattle.meaning.specs.Packing.{through, variables, without, firsts, order, count_of, start_in, among, span_from, span_in, packed_spans, sets_of}

-- ---- lists of equal width, one after the other

module _ {A : Type 0} (f : ℕ → List A) (m : ℕ) where
  -- the first n have m elements each
  abbrev pub WideBelow : ℕ → Type 0
  WideBelow n = (k : ℕ) → k < n → length (f k) ≡ m

  fewer : (n : ℕ) → WideBelow (suc n) → WideBelow n
  fewer n wide k l = wide k (omega arith)

  pub length_below : (n : ℕ) → WideBelow n → length (through n f) ≡ m * n
  length_below zero wide = omega arith
  length_below (suc n) wide = omega (arith, length-append (through n f) (f n), length_below n (fewer n wide), wide n (omega arith))

  -- LAW: number j of the list k
  pub at_below : (n : ℕ) → WideBelow n → (d : A) (k j : ℕ) → k < n → j < m → get_or (through n f) (m * k + j) d ≡ get_or (f k) j d
  at_below zero wide d k j l b = absurd (not-suc-le-zero l)
  at_below (suc n) wide d k j l b =
      last_or_below {P = λ k. get_or (through (suc n) f) (m * k + j) d ≡ get_or (f k) j d} n top (λ k l. below k l (at_below n (fewer n wide) d k j l b)) k l
    where
      long : length (through n f) ≡ m * n
      long = length_below n (fewer n wide)

      top : get_or (through n f ++ f n) (m * n + j) d ≡ get_or (f n) j d
      top = ap (λ i. get_or (through n f ++ f n) (i + j) d) (inv long) ∙ get_or-append-add (through n f) (f n) j d

      below : (k : ℕ) → k < n → get_or (through n f) (m * k + j) d ≡ get_or (f k) j d → get_or (through n f ++ f n) (m * k + j) d ≡ get_or (f k) j d
      below k l e = get_or-append (through n f) (f n) d (m * k + j) (omega (arith, long, mul-le-mul_left m l)) ∙ e

module _ {A : Type 0} (f : ℕ → List A) (m : ℕ) (wide : (k : ℕ) → length (f k) ≡ m) (d : A) where
  pub length-through : (n : ℕ) → length (through n f) ≡ m * n
  length-through n = length_below f m n (λ k l. wide k)

  pub through-at : (n k j : ℕ) → k < n → j < m → get_or (through n f) (m * k + j) d ≡ get_or (f k) j d
  through-at n = at_below f m n (λ k l. wide k) d

-- ---- in order, each once

without-among : (v w : ℕ) → eqb w v ≡ false → (xs : List ℕ) → among v xs ≡ true → among v (without w xs) ≡ true
without-among v w n [] e = e
without-among v w n (x ∷ xs) e = go (eqb w x) refl (eqb v x) refl e (without-among v w n xs)
  where
    go : (a : Bool) → eqb w x ≡ a → (b : Bool) → eqb v x ≡ b → cond b true (among v xs) ≡ true → (among v xs ≡ true → among v (without w xs) ≡ true)
        → among v (cond a (without w xs) (x ∷ without w xs)) ≡ true
    go true p true q e rest = absurd (eqb-false w v n (eqb-true w x p ∙ inv (eqb-true v x q)))
    go true p false q e rest = rest e
    go false p true q e rest = rw q
    go false p false q e rest = rw q (rest e)

firsts-among : (v : ℕ) (xs : List ℕ) → among v xs ≡ true → among v (firsts xs) ≡ true
firsts-among v [] e = e
firsts-among v (x ∷ xs) e = go (eqb v x) refl e (firsts-among v xs)
  where
    go : (b : Bool) → eqb v x ≡ b → cond b true (among v xs) ≡ true → (among v xs ≡ true → among v (firsts xs) ≡ true)
        → cond b true (among v (without x (firsts xs))) ≡ true
    go true q e rest = refl
    go false q e rest = without-among v x (ne_eqb x v (λ p. eqb-false v x q (inv p))) (firsts xs) (rest e)

variables-among : (v : ℕ) (fs : List Face) → 0 < length (facing v fs) → among v (variables fs) ≡ true
variables-among v [] l = absurd (not-suc-le-zero l)
variables-among v (meets f g ∷ fs) l = variables-among v fs l
variables-among v (binds w t ∷ fs) l = go (eqb v w) l (variables-among v fs)
  where
    go : (b : Bool) → 0 < length (keep b t (facing v fs)) → (0 < length (facing v fs) → among v (variables fs) ≡ true) → cond b true (among v (variables fs)) ≡ true
    go true l rest = refl
    go false l rest = rest l

-- LAW: a variable that faces something is packed
pub order-among : (v : ℕ) (fs : List Face) → 0 < length (facing v fs) → among v (order fs) ≡ true
order-among v fs l = firsts-among v (variables fs) (variables-among v fs l)

-- ---- spans

module _ (T : Table) (c : ℕ) (fs : List Face) where
  -- LAW: a span's numbers
  pub span_wide : (vs : List ℕ) (v : ℕ) → length (span_in T c fs vs v) ≡ span_width
  span_wide vs v = go (among v vs)
    where
      go : (b : Bool) → length (cond b (span_from T c fs (start_in (count_of fs) v vs) v) (0 ∷ 0 ∷ 0 ∷ 0 ∷ [])) ≡ span_width
      go true = refl
      go false = refl

  pub length_spans : length (packed_spans T c fs) ≡ span_width * variable_count
  unfolding packed_spans
  length_spans = length-through (span_in T c fs (order fs)) span_width (span_wide (order fs)) 0 variable_count

  -- LAW: the numbers of a variable
  pub span_at : (rest : List ℕ) (v j : ℕ) → v < variable_count → j < span_width → get_or (packed_spans T c fs ++ rest) (span_width * v + j) 0 ≡ get_or (span_in T c fs (order fs) v) j 0
  unfolding packed_spans
  span_at rest v j l m =
      let spans = span_in T c fs (order fs) in
      get_or-append (through variable_count spans) rest 0 (span_width * v + j) (omega (arith, length-through spans span_width (span_wide (order fs)) 0 variable_count))
      ∙ through-at spans span_width (span_wide (order fs)) 0 variable_count v j l m

-- ---- sets

module _ (T : Table) (c : ℕ) (fs : List Face) where
  abbrev pub one : ℕ → ℕ → List (ℕ → Bool)
  one v k = in_set T c (facing v fs) k ∷ []

  pub length_one : (v : ℕ) → length (through (count_of fs v) (one v)) ≡ count_of fs v
  length_one v = omega (arith, length-through (one v) 1 (λ k. refl) (λ s. false) (count_of fs v))

  -- LAW: at a packed variable's positions stand its sets
  pub set_at : (vs : List ℕ) (v k : ℕ) → among v vs ≡ true → k < count_of fs v
      → get_or (sets_of T c fs vs) (start_in (count_of fs) v vs + k) (λ s. false) ≡ in_set T c (facing v fs) k
  set_at [] v k e l = absurd (false≢true e)
  set_at (w ∷ ws) v k e l = go (eqb v w) refl e (set_at ws v k)
    where
      go : (b : Bool) → eqb v w ≡ b → cond b true (among v ws) ≡ true
          → (among v ws ≡ true → k < count_of fs v → get_or (sets_of T c fs ws) (start_in (count_of fs) v ws + k) (λ s. false) ≡ in_set T c (facing v fs) k)
          → get_or (through (count_of fs w) (one w) ++ sets_of T c fs ws) (cond b 0 (count_of fs w + start_in (count_of fs) v ws) + k) (λ s. false) ≡ in_set T c (facing v fs) k
      go true q e rest =
          let i : 0 + k ≡ 1 * k + 0 = omega arith in
          let m : k < count_of fs w = subst (λ x. k < count_of fs x) (eqb-true v w q) l in
          get_or-append (through (count_of fs w) (one w)) (sets_of T c fs ws) (λ s. false) (0 + k) (omega (arith, length_one w))
          ∙ ap (λ i. get_or (through (count_of fs w) (one w)) i (λ s. false)) i
          ∙ through-at (one w) 1 (λ k. refl) (λ s. false) (count_of fs w) k 0 m (omega arith)
          ∙ ap (λ x. in_set T c (facing x fs) k) (inv (eqb-true v w q))
      go false q e rest =
          let i : count_of fs w + start_in (count_of fs) v ws + k ≡ length (through (count_of fs w) (one w)) + (start_in (count_of fs) v ws + k) = omega (arith, length_one w) in
          ap (λ i. get_or (through (count_of fs w) (one w) ++ sets_of T c fs ws) i (λ s. false)) i
          ∙ get_or-append-add (through (count_of fs w) (one w)) (sets_of T c fs ws) (start_in (count_of fs) v ws + k) (λ s. false)
          ∙ rest e l

-- ---- two packings of sets, position by position

abbrev Within : List (ℕ → Bool) → List (ℕ → Bool) → Type 0
Within [] ys = Unit {0}
Within (x ∷ xs) [] = ⊥
Within (x ∷ xs) (y ∷ ys) = ((s : ℕ) → x s ≡ true → y s ≡ true) × Within xs ys

within_append : (xs ys us vs : List (ℕ → Bool)) → length xs ≡ length ys → Within xs ys → Within us vs → Within (xs ++ us) (ys ++ vs)
within_append [] [] us vs e h k = k
within_append [] (y ∷ ys) us vs e h k = absurd (omega arith)
within_append (x ∷ xs) [] us vs e h k = absurd h
within_append (x ∷ xs) (y ∷ ys) us vs e h k = (h.0, within_append xs ys us vs (omega arith) h.1 k)

within_at : (xs ys : List (ℕ → Bool)) → Within xs ys → (p s : ℕ) → get_or xs p (λ s. false) s ≡ true → get_or ys p (λ s. false) s ≡ true
within_at [] ys h p s e = absurd (false≢true e)
within_at (x ∷ xs) [] h p s e = absurd h
within_at (x ∷ xs) (y ∷ ys) h zero s e = h.0 s e
within_at (x ∷ xs) (y ∷ ys) h (suc p) s e = within_at xs ys h.1 p s e

module _ (T : Table) (c d : ℕ) (fs : List Face) (inside : (ts : List Term) (k s : ℕ) → in_set T d ts k s ≡ true → in_set T c ts k s ≡ true) where
  through_within : (v n : ℕ) → Within (through n (one T d fs v)) (through n (one T c fs v))
  through_within v zero = tt
  through_within v (suc n) =
      within_append (through n (one T d fs v)) (through n (one T c fs v)) (one T d fs v n) (one T c fs v n)
      (length-through (one T d fs v) 1 (λ k. refl) (λ s. false) n ∙ inv (length-through (one T c fs v) 1 (λ k. refl) (λ s. false) n))
      (through_within v n) ((λ s e. inside (facing v fs) n s e), tt)

  sets_within : (vs : List ℕ) → Within (sets_of T d fs vs) (sets_of T c fs vs)
  sets_within [] = tt
  sets_within (v ∷ vs) =
      within_append (through (count_of fs v) (one T d fs v)) (through (count_of fs v) (one T c fs v)) (sets_of T d fs vs) (sets_of T c fs vs)
      (length_one T d fs v ∙ inv (length_one T c fs v)) (through_within v (count_of fs v)) (sets_within vs)

  -- LAW: if each set at d is part of the set at c, so it is at each position packed
  pub sets_inside : (vs : List ℕ) (p s : ℕ) → get_or (sets_of T d fs vs) p (λ s. false) s ≡ true → get_or (sets_of T c fs vs) p (λ s. false) s ≡ true
  sets_inside vs = within_at (sets_of T d fs vs) (sets_of T c fs vs) (sets_within vs)
