-- Lemmas on `least` and `All`, and on the numbers below n.
use mathlib.Core.Path.{◌≡◌, refl, sym as inv, ap, ◌∙◌, subst}
use mathlib.Core.Logic.{◌⊎◌, inl, inr}
use mathlib.Core.List.{List, [], ◌∷◌, ◌++◌}
use mathlib.Core.Bool.{Bool, true, false, ◌&&◌, ◌||◌, cond, false≢true}
use Prim.Native.Nat.{ℕ, zero, suc, ◌+◌, ◌≤◌, ◌<◌, min, max}
use native.Mathlib.Nat.{not-suc-le-zero}
use native.Mathlib.Decide.{dec_lt, dec_le}
use native.Mathlib.Omega.{arith}
use mathlib.Core.Option.{Option, none, some as just, some-ne-none, some-injective}
use lib.ListN.{length, get_or}
use Rattle.theory.specs.Least.{least, All, every, some, lowest, highest, or_else, least_below}

module _ {A : Type 0} where
  pub least_top : (f : A → ℕ) (xs : List A) → least f xs ≤ 1000
  least_top f [] = omega arith
  least_top f (x ∷ xs) = omega (arith, least_top f xs)

  pub least-append : (f : A → ℕ) (xs ys : List A) → least f (xs ++ ys) ≡ min (least f xs) (least f ys)
  least-append f [] ys = omega (arith, least_top f ys)
  least-append f (x ∷ xs) ys = omega (arith, least-append f xs ys)

  pub all_of_least : (f : A → ℕ) (c : ℕ) (xs : List A) → c ≤ least f xs → All (λ x. c ≤ f x) xs
  all_of_least f c [] h = tt
  all_of_least f c (x ∷ xs) h = (omega arith, all_of_least f c xs (omega arith))

  pub least_of_all : (f : A → ℕ) (c : ℕ) (xs : List A) → c ≤ 1000 → All (λ x. c ≤ f x) xs → c ≤ least f xs
  least_of_all f c [] b h = b
  least_of_all f c (x ∷ xs) b h = omega (arith, h.0, least_of_all f c xs b h.1)

  pub all_map : {P Q : A → Type 0} (xs : List A) → ((x : A) → P x → Q x) → All P xs → All Q xs
  all_map [] k h = tt
  all_map (x ∷ xs) k h = (k x h.0, all_map xs k h.1)

  pub all_append : (P : A → Type 0) (xs ys : List A) → All P xs → All P ys → All P (xs ++ ys)
  all_append P [] ys h k = k
  all_append P (x ∷ xs) ys h k = (h.0, all_append P xs ys h.1 k)

  pub all_left : (P : A → Type 0) (xs ys : List A) → All P (xs ++ ys) → All P xs
  all_left P [] ys h = tt
  all_left P (x ∷ xs) ys h = (h.0, all_left P xs ys h.1)

  pub all_right : (P : A → Type 0) (xs ys : List A) → All P (xs ++ ys) → All P ys
  all_right P [] ys h = h
  all_right P (x ∷ xs) ys h = all_right P xs ys h.1

  pub all_get_d : (P : A → Type 0) (xs : List A) (k : ℕ) (z : A) → k < length xs → All P xs → P (get_or xs k z)
  all_get_d P [] k z l h = absurd (not-suc-le-zero l)
  all_get_d P (x ∷ xs) zero z l h = h.0
  all_get_d P (x ∷ xs) (suc k) z l h = all_get_d P xs k z (omega arith) h.1

-- ---- tests joined

pub and_true : (a b : Bool) → a ≡ true → b ≡ true → (a && b) ≡ true
and_true true b p q = q
and_true false b p q = p

pub and_left : (a b : Bool) → (a && b) ≡ true → a ≡ true
and_left true b p = refl
and_left false b p = p

pub and_right : (a b : Bool) → (a && b) ≡ true → b ≡ true
and_right true b p = p
and_right false b p = absurd (false≢true p)

pub both_false : (a b : Bool) → (a || b) ≡ false → (a ≡ false) × (b ≡ false)
both_false true b e = absurd (false≢true (inv e))
both_false false b e = (refl, e)

pub or_left : (a b : Bool) → a ≡ true → (a || b) ≡ true
or_left true b e = refl
or_left false b e = absurd (false≢true e)

pub or_right : (a b : Bool) → b ≡ true → (a || b) ≡ true
or_right true b e = refl
or_right false b e = e

-- ---- the numbers below n

-- a number below suc n is n or below n
pub last_or_below {ℓ} : {P : ℕ → Type ℓ} (n : ℕ) → P n → ((k : ℕ) → k < n → P k) → (k : ℕ) → k < suc n → P k
last_or_below {P = P} n top rest k h = go (dec_lt k n)
  where
    go : Dec (k < n) → P k
    go (yes l) = rest k l
    go (no l) = subst P (omega arith) top

pub lowest_le : (n : ℕ) (f : ℕ → ℕ) (k : ℕ) → k < n → lowest n f ≤ f k
lowest_le zero f k h = absurd (not-suc-le-zero h)
lowest_le (suc n) f k h = last_or_below {P = λ k. lowest (suc n) f ≤ f k} n (omega arith) (λ k l. omega (arith, lowest_le n f k l)) k h

pub lowest_top : (n : ℕ) (f : ℕ → ℕ) → lowest n f ≤ 1000
lowest_top zero f = omega arith
lowest_top (suc n) f = omega (arith, lowest_top n f)

pub le_lowest : (n : ℕ) (f : ℕ → ℕ) (m : ℕ) → m ≤ 1000 → ((k : ℕ) → k < n → m ≤ f k) → m ≤ lowest n f
le_lowest zero f m b h = b
le_lowest (suc n) f m b h = omega (arith, h n (omega arith), le_lowest n f m b (λ k l. h k (omega arith)))

pub le_highest : (n : ℕ) (f : ℕ → ℕ) (k : ℕ) → k < n → f k ≤ highest n f
le_highest zero f k h = absurd (not-suc-le-zero h)
le_highest (suc n) f k h = last_or_below {P = λ k. f k ≤ highest (suc n) f} n (omega arith) (λ k l. omega (arith, le_highest n f k l)) k h

pub every-at : (n : ℕ) (b : ℕ → Bool) → every n b ≡ true → (k : ℕ) → k < n → b k ≡ true
every-at zero b e k h = absurd (not-suc-le-zero h)
every-at (suc n) b e k h =
    last_or_below {P = λ k. b k ≡ true} n (and_left (b n) (every n b) e) (every-at n b (and_right (b n) (every n b) e)) k h

pub every_of : (n : ℕ) (b : ℕ → Bool) → ((k : ℕ) → k < n → b k ≡ true) → every n b ≡ true
every_of zero b h = refl
every_of (suc n) b h = and_true (b n) (every n b) (h n (omega arith)) (every_of n b (λ k l. h k (omega arith)))

pub some_of : (n : ℕ) (b : ℕ → Bool) (k : ℕ) → k < n → b k ≡ true → some n b ≡ true
some_of zero b k h e = absurd (not-suc-le-zero h)
some_of (suc n) b k h e =
    last_or_below {P = λ k. b k ≡ true → some (suc n) b ≡ true} n (λ e. or_left (b n) (some n b) e)
    (λ k l e. or_right (b n) (some n b) (some_of n b k l e)) k h e

-- Among the numbers below n that pass the test b, one at which f is most, and one at which f is least.
module _ (b : ℕ → Bool) (f : ℕ → ℕ) where
  -- a number below n that passes, with f m there
  pub record Chosen (n m : ℕ) : Type 0 where
    pub pick : ℕ
    pub below : pick < n
    pub passes : b pick ≡ true
    pub is : f pick ≡ m

  abbrev pub most : ℕ → ℕ
  most n = highest n (λ s. cond (b s) (f s) 0)

  abbrev pub fewest : ℕ → ℕ
  fewest n = lowest n (λ s. cond (b s) (f s) 1000)

  pub the_most : (n : ℕ) → ((some n b ≡ false) × (most n ≡ 0)) ⊎ Chosen n (most n)
  the_most zero = inl (refl, refl)
  the_most (suc n) = go (b n) refl (the_most n)
    where
      go : (t : Bool) → b n ≡ t → ((some n b ≡ false) × (most n ≡ 0)) ⊎ Chosen n (most n)
          → (((t || some n b) ≡ false) × (max (cond t (f n) 0) (most n) ≡ 0)) ⊎ Chosen (suc n) (max (cond t (f n) 0) (most n))
      go false e (inl r) = inl (r.0, omega (arith, r.1))
      go false e (inr c) = inr (record { pick = c.pick; below = omega (arith, c.below); passes = c.passes; is = omega (arith, c.is) })
      go true e (inl r) = inr (record { pick = n; below = omega arith; passes = e; is = omega (arith, r.1) })
      go true e (inr c) =
          elim (dec_le (f n) (most n)) [
            | yes l ↦ inr (record { pick = c.pick; below = omega (arith, c.below); passes = c.passes; is = omega (arith, c.is, l) })
            | no l ↦ inr (record { pick = n; below = omega arith; passes = e; is = omega (arith, l) })
          ]

  pub the_fewest : ((s : ℕ) → f s ≤ 1000) → (n : ℕ) → ((some n b ≡ false) × (fewest n ≡ 1000)) ⊎ Chosen n (fewest n)
  the_fewest top zero = inl (refl, refl)
  the_fewest top (suc n) = go (b n) refl (the_fewest top n)
    where
      go : (t : Bool) → b n ≡ t → ((some n b ≡ false) × (fewest n ≡ 1000)) ⊎ Chosen n (fewest n)
          → (((t || some n b) ≡ false) × (min (cond t (f n) 1000) (fewest n) ≡ 1000)) ⊎ Chosen (suc n) (min (cond t (f n) 1000) (fewest n))
      go false e (inl r) = inl (r.0, omega (arith, r.1))
      go false e (inr c) = inr (record { pick = c.pick; below = omega (arith, c.below); passes = c.passes; is = omega (arith, c.is, top c.pick) })
      go true e (inl r) = inr (record { pick = n; below = omega arith; passes = e; is = omega (arith, r.1, top n) })
      go true e (inr c) =
          elim (dec_le (fewest n) (f n)) [
            | yes l ↦ inr (record { pick = c.pick; below = omega (arith, c.below); passes = c.passes; is = omega (arith, c.is, l) })
            | no l ↦ inr (record { pick = n; below = omega arith; passes = e; is = omega (arith, l) })
          ]

-- LAW: numbers that do not pass the test bring nothing to the least nor to the most
pub skipped : (b : ℕ → Bool) (f : ℕ → ℕ) (m n : ℕ) → m ≤ n → ((s : ℕ) → m ≤ s → s < n → b s ≡ false)
    → (fewest b f n ≡ fewest b f m) × (most b f n ≡ most b f m)
skipped b f m zero l fails = let e : zero ≡ m = omega arith in (ap (fewest b f) e, ap (most b f) e)
skipped b f m (suc n) l fails = go (dec_lt n m) (λ h. skipped b f m n h (λ s a l. fails s a (omega arith)))
  where
    go : Dec (n < m) → (m ≤ n → (fewest b f n ≡ fewest b f m) × (most b f n ≡ most b f m))
        → (fewest b f (suc n) ≡ fewest b f m) × (most b f (suc n) ≡ most b f m)
    go (yes h) before = let e : suc n ≡ m = omega arith in (ap (fewest b f) e, ap (most b f) e)
    go (no h) before =
        let same = before (omega arith) in
        rw (fails n (omega arith) (omega arith)) (omega (arith, same.0, lowest_top n (λ s. cond (b s) (f s) 1000)), omega (arith, same.1))

-- a choice for each number below n, as one function
pub choose : (n : ℕ) (P : ℕ → ℕ → Type 0) → ((k : ℕ) → k < n → (s : ℕ) × P k s) → (φ : ℕ → ℕ) × ((k : ℕ) → k < n → P k (φ k))
choose n P f = ((λ k. value k (dec_lt k n)), (λ k l. proof k l (dec_lt k n)))
  where
    value : (k : ℕ) → Dec (k < n) → ℕ
    value k (yes l) = (f k l).0
    value k (no l) = 0

    proof : (k : ℕ) → k < n → (d : Dec (k < n)) → P k (value k d)
    proof k l (yes l') = (f k l').1
    proof k l (no l') = absurd (l' l)

-- ---- the least number that passes a test

pub least-none : (n : ℕ) (b : ℕ → Bool) → least_below n b ≡ none → (w : ℕ) → w < n → b w ≡ false
least-none zero b e w l = absurd (not-suc-le-zero l)
least-none (suc n) b e w l = go (least_below n b) refl (b n) refl e (least-none n b)
  where
    go : (o : Option ℕ) → least_below n b ≡ o → (t : Bool) → b n ≡ t → or_else o (cond t (just n) none) ≡ none
        → (least_below n b ≡ none → (w : ℕ) → w < n → b w ≡ false) → b w ≡ false
    go (just i) q t r e rest = absurd (some-ne-none i e)
    go none q true r e rest = absurd (some-ne-none n e)
    go none q false r e rest = last_or_below {P = λ w. b w ≡ false} n r (rest q) w l

pub record LeastAt (b : ℕ → Bool) (v : ℕ) : Type 0 where
  pub passes : b v ≡ true
  pub least : (w : ℕ) → w < v → b w ≡ false

pub least_just : (n : ℕ) (b : ℕ → Bool) (v : ℕ) → least_below n b ≡ just v → LeastAt b v
least_just zero b v e = absurd (some-ne-none v (inv e))
least_just (suc n) b v e = go (least_below n b) refl (b n) refl e (least_just n b v)
  where
    go : (o : Option ℕ) → least_below n b ≡ o → (t : Bool) → b n ≡ t → or_else o (cond t (just n) none) ≡ just v → (least_below n b ≡ just v → LeastAt b v) → LeastAt b v
    go (just i) q t r e rest = rest (q ∙ e)
    go none q true r e rest = subst (LeastAt b) (some-injective n v e) (record { passes = r; least = least-none n b q })
    go none q false r e rest = absurd (some-ne-none v (inv e))
