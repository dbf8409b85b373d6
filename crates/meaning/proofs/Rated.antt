-- The degrees of a match as loops compute them: the least that the pattern's symbols bring, and the least of its variables' own degrees, each
-- variable once. A variable's own degree is the same wherever it stands, so that the order's numbers bring what all the nodes do.
use mathlib.Core.Path.{◌≡◌, refl, ap}
use mathlib.Core.List.{List, [], ◌∷◌, ◌++◌}
use mathlib.Core.Bool.{Bool, true, false, cond}
use Prim.Native.Nat.{ℕ, zero, suc, ◌+◌, ◌≤◌, min, max}
use native.Mathlib.Numerals.{add-one}
use native.Mathlib.Omega.{arith}
use lib.Dec.{eqb}
use borrow.Author.Tests.{eqb-true}
use Rattle.theory.specs.Tree.{Term}
use Rattle.theory.specs.Table.{Table}
use Rattle.theory.specs.Least.{least, lowest, highest}
use Rattle.theory.specs.Faces.{Face, meets, binds}
use Rattle.theory.specs.Match.{shared, in_set, lowest_at_lem, highest_at, brings, lowest_of_lem, highest_of}
use Rattle.theory.proofs.Lemmas.{least_top, least-append, lowest_top}
use Rattle.meaning.specs.Packing.{variables, without, firsts, order}
use Rattle.meaning.specs.Search.{symbol_worth}

-- ---- one more

module _ {A : Type 0} (f : A → ℕ) where
  -- LAW: the least, with one more at the end
  pub least_last : (xs : List A) (x : A) → least f (xs ++ (x ∷ [])) ≡ min (least f xs) (f x)
  least_last xs x = omega (arith, least-append f xs (x ∷ []), least_top f xs)

-- LAW: a variable's node leaves what the symbols bring
pub symbols_variable : (T : Table) (fs : List Face) (v : ℕ) (t : Term) → least (symbol_worth T) (fs ++ (binds v t ∷ [])) ≡ least (symbol_worth T) fs
symbols_variable T fs v t = omega (arith, least_last (symbol_worth T) fs (binds v t), least_top (symbol_worth T) fs)

-- LAW: the least and the most, with one more number
pub lowest_last : (n : ℕ) (f : ℕ → ℕ) → lowest (n + 1) f ≡ min (lowest n f) (f n)
lowest_last n f = rw add-one (omega arith)

pub highest_last : (n : ℕ) (f : ℕ → ℕ) → highest (n + 1) f ≡ max (highest n f) (f n)
highest_last n f = rw add-one (omega arith)

-- ---- degrees are at most 1000

pub highest_top : (n : ℕ) (f : ℕ → ℕ) → ((k : ℕ) → f k ≤ 1000) → highest n f ≤ 1000
highest_top zero f h = omega arith
highest_top (suc n) f h = omega (arith, h n, highest_top n f h)

module _ (T : Table) (c : ℕ) where
  pub lowest_at_top : (ts : List Term) (k : ℕ) → lowest_at_lem T c ts k ≤ 1000
  lowest_at_top ts k = lowest_top T.size _

  pub highest_at_top : (ts : List Term) (k : ℕ) → highest_at T c ts k ≤ 1000
  highest_at_top ts k = highest_top T.size _ (λ s. go s (in_set T c ts k s))
    where
      go : (s : ℕ) (b : Bool) → cond b (shared T ts k s) 0 ≤ 1000
      go s true = least_top _ ts
      go s false = omega arith

  pub lowest_of_top : (fs : List Face) → lowest_of_lem T c fs ≤ 1000
  lowest_of_top fs = least_top _ fs

  pub highest_of_top : (fs : List Face) → highest_of T c fs ≤ 1000
  highest_of_top fs = least_top _ fs

-- ---- each variable once

module _ (f : ℕ → ℕ) where
  -- next to v's own, v may be left out
  least-without : (v : ℕ) (xs : List ℕ) → min (f v) (least f (without v xs)) ≡ min (f v) (least f xs)
  least-without v [] = refl
  least-without v (x ∷ xs) = go (eqb v x) refl (least-without v xs)
    where
      go : (b : Bool) → eqb v x ≡ b → min (f v) (least f (without v xs)) ≡ min (f v) (least f xs)
          → min (f v) (least f (cond b (without v xs) (x ∷ without v xs))) ≡ min (f v) (min (f x) (least f xs))
      go true q e = omega (arith, ap f (eqb-true v x q))
      go false q e = omega arith

  least-firsts : (xs : List ℕ) → least f (firsts xs) ≡ least f xs
  least-firsts [] = refl
  least-firsts (x ∷ xs) = omega (arith, least-without x (firsts xs), least-firsts xs)

module _ (T : Table) (own : ℕ → ℕ) where
  -- symbols and variables apart
  least_apart : (fs : List Face) → least (brings T own) fs ≡ min (least (symbol_worth T) fs) (least own (variables fs))
  least_apart [] = refl
  least_apart (meets f g ∷ fs) = omega (arith, least_apart fs)
  least_apart (binds v t ∷ fs) = omega (arith, least_apart fs, least_top (symbol_worth T) fs)

  -- LAW: the least that a node brings
  pub least-brings : (fs : List Face) → least (brings T own) fs ≡ min (least (symbol_worth T) fs) (least own (order fs))
  least-brings fs = omega (arith, least_apart fs, least-firsts own (variables fs))
