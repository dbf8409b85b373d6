-- The least and the most of what the members of a set have, as the members are met one after the other: a member brings its own, and with fewer
-- numbers the least is not lower nor the most higher.
use mathlib.Core.Path.{◌≡◌, refl, ap}
use mathlib.Core.Bool.{Bool, true, false}
use Prim.Native.Nat.{ℕ, zero, suc, ◌+◌, ◌≤◌, ◌<◌, min, max}
use native.Mathlib.Numerals.{add-one}
use native.Mathlib.Decide.{dec_lt}
use native.Mathlib.Omega.{arith}
use Rattle.theory.specs.Least.{lowest, highest}
use Rattle.theory.proofs.Lemmas.{most, fewest, skipped}

-- LAW: what is least, most, is so of the same numbers
pub lowest-same : (n : ℕ) (f g : ℕ → ℕ) → ((k : ℕ) → k < n → f k ≡ g k) → lowest n f ≡ lowest n g
lowest-same zero f g e = refl
lowest-same (suc n) f g e = rw (e n (omega arith), lowest-same n f g (λ k l. e k (omega arith)))

pub highest-same : (n : ℕ) (f g : ℕ → ℕ) → ((k : ℕ) → k < n → f k ≡ g k) → highest n f ≡ highest n g
highest-same zero f g e = refl
highest-same (suc n) f g e = rw (e n (omega arith), highest-same n f g (λ k l. e k (omega arith)))

-- LAW: with fewer numbers the least is not lower, nor the most higher
pub lowest_fewer : (f : ℕ → ℕ) (m n : ℕ) → m ≤ n → lowest n f ≤ lowest m f
lowest_fewer f m zero l = let e : zero ≡ m = omega arith in omega (arith, ap (λ k. lowest k f) e)
lowest_fewer f m (suc n) l = go (dec_lt n m) (lowest_fewer f m n)
  where
    go : Dec (n < m) → (m ≤ n → lowest n f ≤ lowest m f) → lowest (suc n) f ≤ lowest m f
    go (yes h) before = let e : suc n ≡ m = omega arith in omega (arith, ap (λ k. lowest k f) e)
    go (no h) before = omega (arith, before (omega arith))

pub highest_fewer : (f : ℕ → ℕ) (m n : ℕ) → m ≤ n → highest m f ≤ highest n f
highest_fewer f m zero l = let e : zero ≡ m = omega arith in omega (arith, ap (λ k. highest k f) e)
highest_fewer f m (suc n) l = go (dec_lt n m) (highest_fewer f m n)
  where
    go : Dec (n < m) → (m ≤ n → highest m f ≤ highest n f) → highest m f ≤ highest (suc n) f
    go (yes h) before = let e : suc n ≡ m = omega arith in omega (arith, ap (λ k. highest k f) e)
    go (no h) before = omega (arith, before (omega arith))

module _ (b : ℕ → Bool) (f : ℕ → ℕ) where
  -- LAW: the next member brings its own
  pub fewest_next : (m k : ℕ) → m ≤ k → b k ≡ true → ((s : ℕ) → m ≤ s → s < k → b s ≡ false) → fewest b f (k + 1) ≡ min (fewest b f m) (f k)
  fewest_next m k l e none = let before = (skipped b f m k l none).0 in rw (add-one k, e) (omega arith)

  pub most_next : (m k : ℕ) → m ≤ k → b k ≡ true → ((s : ℕ) → m ≤ s → s < k → b s ≡ false) → most b f (k + 1) ≡ max (most b f m) (f k)
  most_next m k l e none = let before = (skipped b f m k l none).1 in rw (add-one k, e) (omega arith)
