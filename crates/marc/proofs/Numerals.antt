-- A number in decimal is told by its bytes: they are digits, one reads them to the number's value, and only 0 begins with the digit 0.
use mathlib.Core.Path.{◌≡◌, refl, sym, ap, ◌∙◌}
use mathlib.Core.List.{List, [], ◌∷◌, ◌++◌}
use mathlib.Core.Bool.{Bool, true, false, cond, false≢true}
use Prim.Native.Nat.{ℕ, zero, suc, ◌+◌, ◌*◌, ◌-◌, ◌/◌, ◌%◌, ◌^◌, ◌<◌}
use native.Mathlib.Nat.{pow-zero, pow-suc}
use native.Mathlib.Omega.{arith}
use lib.Dec.{ltb}
use lib.ListN.{length, get_or}
use borrow.Author.Tests.{ltb-true, ltb-false, lt-ltb, le-leb}
use Rattle.theory.specs.Least.{All}
use Rattle.meaning.specs.Program.{digits, decimal}
use Rattle.marc.specs.Frame.{is_digit_lem}
use Rattle.marc.specs.ListFile.{Numbered}
use Rattle.marc.proofs.Parting.{parts_once}

abbrev pub Digit : ℕ → Type 0
Digit b = is_digit_lem b ≡ true

-- what digits write, behind what was read already
abbrev pub value_behind : ℕ → List ℕ → ℕ
value_behind so [] = so
value_behind so (b ∷ bs) = value_behind (so * 10 + (b - 48)) bs

is_digit : (d : ℕ) → d < 10 → Digit (48 + d)
is_digit d l = rw (le-leb 48 (48 + d) (omega arith), le-leb (48 + d) 57 (omega arith))

digits_all : (k n : ℕ) (text : List ℕ) → All Digit text → All Digit (digits k n text)
digits_all zero n text all = all
digits_all (suc k) n text all = go (ltb n 10) refl (digits_all k (n / 10) ((48 + n % 10) ∷ text) (is_digit (n % 10) (omega arith), all))
  where
    go : (low : Bool) → ltb n 10 ≡ low → All Digit (digits k (n / 10) ((48 + n % 10) ∷ text)) → All Digit (cond low ((48 + n) ∷ text) (digits k (n / 10) ((48 + n % 10) ∷ text)))
    go true e rest = (is_digit n (ltb-true n 10 e), all)
    go false e rest = rest

digits-some : (k n : ℕ) (text : List ℕ) → length text < length (digits (suc k) n text)
digits-some zero n text = go (ltb n 10)
  where
    go : (low : Bool) → length text < length (cond low ((48 + n) ∷ text) ((48 + n % 10) ∷ text))
    go true = omega arith
    go false = omega arith
digits-some (suc k) n text = go (ltb n 10) (digits-some k (n / 10) ((48 + n % 10) ∷ text))
  where
    go : (low : Bool) → suc (length text) < length (digits (suc k) (n / 10) ((48 + n % 10) ∷ text))
        → length text < length (cond low ((48 + n) ∷ text) (digits (suc k) (n / 10) ((48 + n % 10) ∷ text)))
    go true l = omega arith
    go false l = omega arith

digits_value : (k n : ℕ) (text : List ℕ) → n < 10 ^ k → value_behind 0 (digits k n text) ≡ value_behind n text
digits_value zero n text l = let z : 0 ≡ n = omega (arith, pow-zero 10) in ap (λ m. value_behind m text) z
digits_value (suc k) n text l = go (ltb n 10) (digits_value k (n / 10) ((48 + n % 10) ∷ text) (omega (arith, pow-suc 10 k)))
  where
    go : (low : Bool) → value_behind 0 (digits k (n / 10) ((48 + n % 10) ∷ text)) ≡ value_behind (n / 10) ((48 + n % 10) ∷ text)
        → value_behind 0 (cond low ((48 + n) ∷ text) (digits k (n / 10) ((48 + n % 10) ∷ text))) ≡ value_behind n text
    go true rest = let e : 0 * 10 + (48 + n - 48) ≡ n = omega arith in ap (λ m. value_behind m text) e
    go false rest = let e : n / 10 * 10 + (48 + n % 10 - 48) ≡ n = omega arith in rest ∙ ap (λ m. value_behind m text) e

digits-first : (k n : ℕ) (text : List ℕ) → n < 10 ^ suc k → get_or (digits (suc k) n text) 0 0 ≡ 48 → n ≡ 0
digits-first zero n text l e =
    let f : 48 + n ≡ 48 = sym (ap (λ low. get_or (cond low ((48 + n) ∷ text) ((48 + n % 10) ∷ text)) 0 0) (lt-ltb n 10 (omega arith))) ∙ e in
    omega arith
digits-first (suc k) n text l e = go (ltb n 10) refl (digits-first k (n / 10) ((48 + n % 10) ∷ text) (omega (arith, pow-suc 10 (suc k)))) e
  where
    go : (low : Bool) → ltb n 10 ≡ low → (get_or (digits (suc k) (n / 10) ((48 + n % 10) ∷ text)) 0 0 ≡ 48 → n / 10 ≡ 0)
        → get_or (cond low ((48 + n) ∷ text) (digits (suc k) (n / 10) ((48 + n % 10) ∷ text))) 0 0 ≡ 48 → n ≡ 0
    go true b rest e = omega arith
    go false b rest e = let z = rest e in let high = ltb-false n 10 b in absurd (omega arith)

-- LAW: a number has a digit
pub decimal-some : (n : ℕ) → 0 < length (decimal n)
decimal-some n = digits-some 4 n []

module _ (n : ℕ) (fits : Numbered n) where
  -- LAW: its bytes are digits, which write it
  pub decimal_all : All Digit (decimal n)
  decimal_all = digits_all 5 n [] tt

  pub decimal_value : value_behind 0 (decimal n) ≡ n
  decimal_value = digits_value 5 n [] (omega (arith, fits))

  -- LAW: no other number than 0 begins with the digit 0
  pub decimal-first : get_or (decimal n) 0 0 ≡ 48 → n ≡ 0
  decimal-first = digits-first 4 n [] (omega (arith, fits))

-- LAW: a number with a byte behind it that is no digit
pub decimal_once : (n m c d : ℕ) (r s : List ℕ) → Numbered n → Numbered m → is_digit_lem c ≡ false → is_digit_lem d ≡ false
    → decimal n ++ (c ∷ r) ≡ decimal m ++ (d ∷ s) → (n ≡ m) × (c ≡ d) × (r ≡ s)
decimal_once n m c d r s p q x y e =
    let one = parts_once Digit (decimal n) (decimal m) c d r s (decimal_all n p) (decimal_all m q) (λ t. false≢true (sym x ∙ t)) (λ t. false≢true (sym y ∙ t)) e in
    (sym (decimal_value n p) ∙ ap (value_behind 0) one.0 ∙ decimal_value m q, one.1, one.2)
