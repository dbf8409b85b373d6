-- The numbers that stand from a byte on: as many as are copied are the first of them, and with each store there is one more.
use mathlib.Core.Path.{◌≡◌, refl, sym, ap, ap₂, ◌∙◌}
use mathlib.Core.List.{List, [], ◌∷◌, ◌++◌}
use Prim.Native.Nat.{ℕ, zero, suc, ◌+◌, ◌*◌, ◌≤◌, ◌<◌, min}
use native.Mathlib.Nat.{add-zero}
use native.Mathlib.Numerals.{add-one}
use native.Mathlib.Decide.{dec_lt}
use native.Mathlib.Omega.{arith}
use lib.ListN.{length, set, take}
use lib.Seq.{take_all, take-suc-set}
use Rattle.meaning.specs.File.{number}
use Rattle.meaning.specs.Program.{numbers_from}

module _ (bytes : List ℕ) where
  pub length_numbers : (at n : ℕ) → length (numbers_from bytes at n) ≡ n
  length_numbers at zero = refl
  length_numbers at (suc n) = ap suc (length_numbers (at + 2) n)

  -- LAW: the first k of more numbers
  pub take_numbers : (at k n : ℕ) → k ≤ n → take k (numbers_from bytes at n) ≡ numbers_from bytes at k
  take_numbers at zero n l = refl
  take_numbers at (suc k) zero l = absurd (omega arith)
  take_numbers at (suc k) (suc n) l = ap (λ ns. number bytes at ∷ ns) (take_numbers (at + 2) k n (omega arith))

  -- LAW: as many as are asked for and there is room for
  pub min_numbers : (at n k : ℕ) → numbers_from bytes at (min n k) ≡ take k (numbers_from bytes at n)
  min_numbers at n k = go (dec_lt k n)
    where
      go : Dec (k < n) → numbers_from bytes at (min n k) ≡ take k (numbers_from bytes at n)
      go (yes l) = let e : min n k ≡ k = omega arith in rw e (sym (take_numbers at k n (omega arith)))
      go (no l) = let e : min n k ≡ n = omega arith in rw e (sym (take_all k (numbers_from bytes at n) (omega (arith, length_numbers at n))))

  numbers_last : (at n : ℕ) → numbers_from bytes at (suc n) ≡ numbers_from bytes at n ++ (number bytes (at + 2 * n) ∷ [])
  numbers_last at zero = rw add-zero
  numbers_last at (suc n) =
      let e : at + 2 + 2 * n ≡ at + 2 * suc n = omega arith in
      ap (λ ns. number bytes at ∷ ns) (numbers_last (at + 2) n ∙ ap (λ i. numbers_from bytes (at + 2) n ++ (number bytes i ∷ [])) e)

  -- LAW: a number more, by a store
  pub copy_more : (at i : ℕ) (nodes : List ℕ) → i < length nodes → take i nodes ≡ numbers_from bytes at i → (n : ℕ) → n ≡ number bytes (at + 2 * i)
      → take (i + 1) (set nodes i n) ≡ numbers_from bytes at (i + 1)
  copy_more at i nodes l e n f = rw add-one (take-suc-set nodes i n l ∙ ap₂ (λ ns k. ns ++ (k ∷ [])) e f ∙ sym (numbers_last at i))
