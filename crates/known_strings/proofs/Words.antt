-- Bytes as digits of a number, the first the highest: the lower of two numbers has the lower byte where they first differ.
use mathlib.Core.Path.{◌≡◌, sym as inv, subst}
use mathlib.Core.List.{List}
use mathlib.Core.Bool.{true, false, false≢true}
use Prim.Native.Nat.{ℕ, zero, suc, ◌+◌, ◌≤◌, ◌<◌, min}
use native.Mathlib.Decide.{dec_lt}
use native.Mathlib.Omega.{arith}
use lib.ListN.{length, get_or, drop}
use Rattle.marc.specs.Known.{same}
use Rattle.marc.specs.Order.{before}
use Rattle.marc.proofs.Order.{lower_differs, higher_differs}
use Rattle.marc.proofs.Strings.{true_same}
use Rattle.known_strings.specs.Compared.{written_at, ComparedAs}
use Rattle.std.proofs.Common.{Ordering, Less, Equal, Greater}
use Rattle.std.proofs.lemmas.Cmp.{ranked}
use Rattle.std.specs.Ordering.{nat_cmp, is_ne, is_eq}
use Rattle.known_strings.proofs.Bytes.{before_lower, goes_on, ends_first, both_end}

-- all that a list holds is bytes
abbrev pub Bytes : List ℕ → Type 0
Bytes xs = (i : ℕ) → get_or xs i 0 < 256

-- LAW: the same number has the same bytes, so what is left decides
pub same_number : (xs ys : List ℕ) → Bytes xs → Bytes ys → (k n : ℕ) → k + n ≤ length xs → k + n ≤ length ys → written_at xs k n ≡ written_at ys k n
    → (r : Ordering) → ComparedAs (drop (k + n) xs) (drop (k + n) ys) r → ComparedAs (drop k xs) (drop k ys) r
same_number xs ys a b k zero l m e r p = let z : k + 0 ≡ k = omega arith in subst (λ i. ComparedAs (drop i xs) (drop i ys) r) z p
same_number xs ys a b k (suc n) l m e r p =
    let here = a (k + n) in
    let there = b (k + n) in
    let next : k + suc n ≡ k + n + 1 = omega arith in
    same_number xs ys a b k n (omega arith) (omega arith) (omega (arith, here, there)) r
    (goes_on xs ys (k + n) (omega arith) (omega arith) (omega (arith, here, there)) r (subst (λ i. ComparedAs (drop i xs) (drop i ys) r) next p))

-- LAW: the lower number stands first
pub lower_number : (xs ys : List ℕ) → Bytes xs → Bytes ys → (k n : ℕ) → k + n ≤ length xs → k + n ≤ length ys → written_at xs k n < written_at ys k n
    → before (drop k xs) (drop k ys) ≡ true
lower_number xs ys a b k zero l m e = absurd (omega arith)
lower_number xs ys a b k (suc n) l m e = go (dec_lt (written_at xs k n) (written_at ys k n)) (lower_number xs ys a b k n (omega arith) (omega arith))
  where
    go : Dec (written_at xs k n < written_at ys k n) → (written_at xs k n < written_at ys k n → before (drop k xs) (drop k ys) ≡ true) → before (drop k xs) (drop k ys) ≡ true
    go (yes d) rest = rest d
    go (no d) rest =
        let here = a (k + n) in
        let there = b (k + n) in
        same_number xs ys a b k n (omega arith) (omega arith) (omega (arith, here, there)) Less
        (before_lower xs ys (k + n) (omega arith) (omega arith) (omega (arith, here, there)))

module _ (xs ys : List ℕ) (a : Bytes xs) (b : Bytes ys) (k : ℕ) (l : k + 4 ≤ length xs) (m : k + 4 ≤ length ys) where
  -- LAW: four bytes of both that are not the same decide
  pub four_decide : (o : Ordering) → o ≡ nat_cmp (written_at xs k 4) (written_at ys k 4) → is_ne o ≡ true → ComparedAs (drop k xs) (drop k ys) o
  four_decide Less e n = lower_number xs ys a b k 4 l m (ranked _ _ Less e)
  four_decide Equal e n = absurd (false≢true n)
  four_decide Greater e n = lower_number ys xs b a k 4 m l (ranked _ _ Greater e)

  -- LAW: .. and if they are the same, what is left does
  pub four_passed : (o : Ordering) → o ≡ nat_cmp (written_at xs k 4) (written_at ys k 4) → is_ne o ≡ false
      → (r : Ordering) → ComparedAs (drop (k + 4) xs) (drop (k + 4) ys) r → ComparedAs (drop k xs) (drop k ys) r
  four_passed Less e n = absurd (false≢true (inv n))
  four_passed Equal e n = same_number xs ys a b k 4 l m (ranked _ _ Equal e)
  four_passed Greater e n = absurd (false≢true (inv n))

-- ---- a byte at a time

module _ (xs ys : List ℕ) (k : ℕ) (l : k < length xs) (m : k < length ys) where
  -- LAW: bytes that are not the same decide
  pub byte_decides : (o : Ordering) → o ≡ nat_cmp (get_or xs k 0) (get_or ys k 0) → is_ne o ≡ true → ComparedAs (drop k xs) (drop k ys) o
  byte_decides Less e n = before_lower xs ys k l m (ranked _ _ Less e)
  byte_decides Equal e n = absurd (false≢true n)
  byte_decides Greater e n = before_lower ys xs k m l (ranked _ _ Greater e)

  -- LAW: .. and if they are the same, what is left does
  pub byte_passed : (o : Ordering) → o ≡ nat_cmp (get_or xs k 0) (get_or ys k 0) → is_ne o ≡ false
      → (r : Ordering) → ComparedAs (drop (k + 1) xs) (drop (k + 1) ys) r → ComparedAs (drop k xs) (drop k ys) r
  byte_passed Less e n = absurd (false≢true (inv n))
  byte_passed Equal e n = goes_on xs ys k l m (ranked _ _ Equal e)
  byte_passed Greater e n = absurd (false≢true (inv n))

-- LAW: where one has ended, the lengths decide
pub lengths_decide : (xs ys : List ℕ) (k : ℕ) → k ≡ min (length xs) (length ys) → (o : Ordering) → o ≡ nat_cmp (length xs) (length ys) → ComparedAs (drop k xs) (drop k ys) o
lengths_decide xs ys k e Less f = let l = ranked (length xs) (length ys) Less f in ends_first xs ys k (omega arith) (omega arith)
lengths_decide xs ys k e Equal f = let l = ranked (length xs) (length ys) Equal f in both_end xs ys k (omega arith) (omega arith)
lengths_decide xs ys k e Greater f = let l = ranked (length xs) (length ys) Greater f in ends_first ys xs k (omega arith) (omega arith)

-- LAW: two strings of one length are the same exactly if they compare so
pub same_compared : (xs ys : List ℕ) (o : Ordering) → ComparedAs xs ys o → is_eq o ≡ same xs ys
same_compared xs ys Less p = inv (lower_differs xs ys p)
same_compared xs ys Equal p = inv (true_same xs ys p)
same_compared xs ys Greater p = inv (higher_differs xs ys p)
