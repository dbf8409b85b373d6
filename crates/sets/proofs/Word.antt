-- The bits of one word. A number is its lowest bit and twice its half, and its other bits are those of the half; so bits determine the
-- number, an operation that goes digit by digit goes bit by bit, and the count of the zeros at a number's low end tells its lowest bit
-- that is set.
use mathlib.Core.Path.{◌≡◌, refl, sym as inv, ap, ap₂, ◌∙◌}
use mathlib.Core.Bool.{Bool, true, false, cond, ◌&&◌, ◌||◌}
use Prim.Native.Nat.{ℕ, zero, suc, ◌+◌, ◌*◌, ◌/◌, ◌%◌, ◌^◌, min, max, ◌≤◌, ◌<◌}
use native.Mathlib.Nat.{div-one, not-suc-le-zero}
use native.Mathlib.Omega.{arith}
use lib.Dec.{eqb, eqb-zero-suc, eqb-suc-zero, eqb-suc-suc}
use lib.Bits.{bit_and, bit_or, and_step, or_step}
use lib.Count.{count_trailing_zeros, under}
use Rattle.meaning.specs.Packing.{bits}
use Rattle.meaning.specs.Buffers.{bit}
use Rattle.meaning.proofs.Bits.{bit-zero, lowest-bit, next_bit}

digit : (d : ℕ) → d < 2 → d ≡ cond (eqb d 1) 1 0
digit zero l = refl
digit (suc zero) l = refl
digit (suc (suc d)) l = absurd (omega arith)

lowest : (w : ℕ) → w % 2 ≡ cond (bit 0 w) 1 0
lowest w = omega (arith, digit (w / 2 ^ 0 % 2) (omega arith), div-one w)

halves : (w : ℕ) → w ≡ cond (bit 0 w) 1 0 + 2 * (w / 2)
halves w = omega (arith, lowest w)

next : (i w : ℕ) → bit (suc i) w ≡ bit i (w / 2)
next i w = ap (bit (suc i)) (halves w) ∙ next_bit (bit 0 w) (w / 2) i

-- a word of n bits that tell of symbols k, k + 1, .. is the one made of them
pub word_is : (set : ℕ → Bool) (k n w : ℕ) → w < 2 ^ n → ((i : ℕ) → i < n → bit i w ≡ set (k + i)) → w ≡ bits set k n
word_is set k zero w l h = omega arith
word_is set k (suc n) w l h =
    let low : bit 0 w ≡ set k = h 0 (omega arith) ∙ ap set (omega arith) in
    let half : w / 2 ≡ bits set (suc k) n = word_is set (suc k) n (w / 2) (omega arith) (λ i m. inv (next i w) ∙ h (suc i) (omega arith) ∙ ap set (omega arith)) in
    halves w ∙ ap₂ (λ (b : Bool) (x : ℕ). cond b 1 0 + 2 * x) low half

doubled : (k : ℕ) → 2 ^ suc k ≡ 0 + 2 * 2 ^ k
doubled k = omega arith

-- of a power of two one bit is set
pub bit_power : (k j : ℕ) → bit j (2 ^ k) ≡ eqb j k
bit_power zero zero = refl
bit_power zero (suc j) = next j 1 ∙ bit-zero j ∙ inv (eqb-suc-zero j)
bit_power (suc k) zero = ap (bit 0) (doubled k) ∙ lowest-bit false (2 ^ k) ∙ inv (eqb-zero-suc k)
bit_power (suc k) (suc j) =
    ap (bit (suc j)) (doubled k) ∙ next_bit false (2 ^ k) j ∙ bit_power k j ∙ inv (eqb-suc-suc j k)

-- below as many bits as there are zeros at the low end, none is set
pub low_clear : (d n i : ℕ) → i < count_trailing_zeros d n → bit i n ≡ false
unfolding count_trailing_zeros
low_clear zero n i l = absurd (not-suc-le-zero l)
low_clear (suc d) n i l = go (n % 2) refl (low_clear d (n / 2)) i l
  where
    go : (r : ℕ) → n % 2 ≡ r → ((i : ℕ) → i < count_trailing_zeros d (n / 2) → bit i (n / 2) ≡ false) → (i : ℕ) → i < under r (count_trailing_zeros d (n / 2))
        → bit i n ≡ false
    go zero e half zero l = let z : n / 2 ^ 0 % 2 ≡ 0 = omega (arith, div-one n) in ap (λ n. eqb n 1) z
    go zero e half (suc i) l = next i n ∙ half i (omega arith)
    go (suc r) e half i l = absurd (not-suc-le-zero l)

-- .. and the bit above them is, which is one of the j bits of a number that is not zero
pub low_set : (d n j : ℕ) → 0 < n → n < 2 ^ j → j ≤ d → (count_trailing_zeros d n < j) × (bit (count_trailing_zeros d n) n ≡ true)
unfolding count_trailing_zeros
low_set d n zero pos l m = absurd (omega arith)
low_set zero n (suc j) pos l m = absurd (omega arith)
low_set (suc d) n (suc j) pos l m = go (n % 2) refl (λ p. low_set d (n / 2) j p (omega arith) (omega arith))
  where
    go : (r : ℕ) → n % 2 ≡ r → (0 < n / 2 → (count_trailing_zeros d (n / 2) < j) × (bit (count_trailing_zeros d (n / 2)) (n / 2) ≡ true))
        → (under r (count_trailing_zeros d (n / 2)) < suc j) × (bit (under r (count_trailing_zeros d (n / 2))) n ≡ true)
    go zero e half = let h = half (omega arith) in (omega (arith, h.0), next (count_trailing_zeros d (n / 2)) n ∙ h.1)
    go (suc r) e half = let o : n / 2 ^ 0 % 2 ≡ 1 = omega (arith, div-one n) in (omega arith, ap (λ n. eqb n 1) o)

-- an operation on words that goes digit by digit, by d, is g on each bit, where d is g on the four pairs of digits
module _ (op d : ℕ → ℕ → ℕ) (g : Bool → Bool → Bool)
    (step : (a b : ℕ) → op a b ≡ op (a / 2) (b / 2) * 2 + d (a % 2) (b % 2))
    (d00 : d 0 0 ≡ cond (g false false) 1 0) (d01 : d 0 1 ≡ cond (g false true) 1 0)
    (d10 : d 1 0 ≡ cond (g true false) 1 0) (d11 : d 1 1 ≡ cond (g true true) 1 0) where
  digits : (p q : Bool) → d (cond p 1 0) (cond q 1 0) ≡ cond (g p q) 1 0
  digits false false = d00
  digits false true = d01
  digits true false = d10
  digits true true = d11

  op_halves : (a b : ℕ) → op a b ≡ cond (g (bit 0 a) (bit 0 b)) 1 0 + 2 * op (a / 2) (b / 2)
  op_halves a b = omega (arith, step a b, ap₂ d (lowest a) (lowest b) ∙ digits (bit 0 a) (bit 0 b))

  bitwise : (k a b : ℕ) → bit k (op a b) ≡ g (bit k a) (bit k b)
  bitwise zero a b = ap (bit 0) (op_halves a b) ∙ lowest-bit (g (bit 0 a) (bit 0 b)) (op (a / 2) (b / 2))
  bitwise (suc k) a b =
      ap (bit (suc k)) (op_halves a b)
      ∙ next_bit (g (bit 0 a) (bit 0 b)) (op (a / 2) (b / 2)) k
      ∙ bitwise k (a / 2) (b / 2)
      ∙ ap₂ g (inv (next k a)) (inv (next k b))

pub and_bit : (k a b : ℕ) → bit k (bit_and a b) ≡ (bit k a && bit k b)
and_bit = bitwise bit_and min ◌&&◌ and_step refl refl refl refl

pub or_bit : (k a b : ℕ) → bit k (bit_or a b) ≡ (bit k a || bit k b)
or_bit = bitwise bit_or max ◌||◌ or_step refl refl refl refl
