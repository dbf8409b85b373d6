-- Digits read one by one, and numbers that stand in a part of the bytes.
use Rattle.std.proofs.Common.{◌≡◌, refl, sym, ap, ap₂, ◌∙◌, List, Option, Some, None, true, false, ℕ, zero, suc, ◌+◌, ◌*◌, ◌-◌, ◌^◌, ◌≤◌, ◌<◌, length, get_or, take, drop, arith, add-one, lit<}
use Rattle.std.specs.Option.{IsSome}
use Rattle.std.proofs.lemmas.Bool.{false≢true}
use Rattle.std.proofs.Math.Nat.{pow-suc, pow-le-pow_right}
use Rattle.std.proofs.lemmas.List.{get_or-take, get_or-drop, length-take-le, length-drop}
use Rattle.marc_record.specs.Numbers.{NumberBy}
use Rattle.marc.specs.Frame.{is_digit_lem, digits_at, value_at, decimal_at}

-- one less is left
pub left_suc : (k n : ℕ) → k < n → n - k ≡ suc (n - (k + 1))
left_suc k n l = omega (arith, add-one (n - (k + 1)))

module _ (r : List ℕ) (k n : ℕ) (l : k < n) where
  -- LAW: a byte that is no digit ends the test, a digit lets it go on
  pub digit_stops : is_digit_lem (get_or r k 0) ≡ false → digits_at r k (n - k) ≡ false
  unfolding digits_at
  digit_stops e = rw (left_suc k n l, e)

  pub digit_goes : is_digit_lem (get_or r k 0) ≡ true → digits_at r k (n - k) ≡ digits_at r (k + 1) (n - (k + 1))
  unfolding digits_at
  digit_goes e = rw (left_suc k n l, e)

  -- LAW: a digit is put behind what is written already
  pub digit_joins : (so : ℕ) → value_at r k (n - k) so ≡ value_at r (k + 1) (n - (k + 1)) (so * 10 + (get_or r k 0 - 48))
  unfolding value_at
  digit_joins so = rw (left_suc k n l)

-- LAW: no byte is left
pub digits-none : (r : List ℕ) (k n : ℕ) → n ≤ k → digits_at r k (n - k) ≡ true
unfolding digits_at
digits-none r k n l = let none_left : n - k ≡ 0 = omega arith in rw none_left

pub value-none : (r : List ℕ) (k n so : ℕ) → n ≤ k → value_at r k (n - k) so ≡ so
unfolding value_at
value-none r k n so l = let none_left : n - k ≡ 0 = omega arith in rw none_left

-- LAW: and the number keeps to its digits
pub one_digit_more : (n d i : ℕ) → n < 10 ^ i → d ≤ 9 → n * 10 + d < 10 ^ (i + 1)
one_digit_more n d i l m = rw (add-one i, pow-suc 10 i) (omega arith)

pub at_most_five : (n i : ℕ) → n < 10 ^ i → i ≤ 5 → n ≤ 99999
at_most_five n i l m = let e : 10 ^ i ≤ 10 ^ 5 = pow-le-pow_right (lit< tt) m in omega arith

-- ---- a number that stands in a part of the bytes

-- Some byte of the n from `at` on is no digit; or all are, and this is the number that they write.
abbrev pub NumberAt : List ℕ → ℕ → ℕ → Option ℕ → Type 0
NumberAt r at n None = digits_at r at n ≡ false
NumberAt r at n (Some m) = (digits_at r at n ≡ true) × (m ≡ decimal_at r at n) × (m ≤ 99999)

module _ (r : List ℕ) (at n : ℕ) where
  byte : (k : ℕ) → k < n → get_or (take n (drop at r)) k 0 ≡ get_or r (at + k) 0
  byte k l = get_or-take n (drop at r) k 0 l ∙ get_or-drop at r k 0

  digits-part : (k m : ℕ) → k + m ≤ n → digits_at (take n (drop at r)) k m ≡ digits_at r (at + k) m
  unfolding digits_at
  digits-part k zero l = refl
  digits-part k (suc m) l =
      let next : at + (k + 1) ≡ at + k + 1 = omega arith in
      rw (byte k (omega arith), digits-part (k + 1) m (omega arith), next)

  value-part : (k m so : ℕ) → k + m ≤ n → value_at (take n (drop at r)) k m so ≡ value_at r (at + k) m so
  unfolding value_at
  value-part k zero so l = refl
  value-part k (suc m) so l =
      let next : at + (k + 1) ≡ at + k + 1 = omega arith in
      rw (byte k (omega arith), value-part (k + 1) m (so * 10 + (get_or r (at + k) 0 - 48)) (omega arith), next)

  -- LAW: what is read of a part is what stands there
  module _ (k : ℕ) (e : k ≡ n) (l : at + n ≤ length r) where
    part : take k (drop at r) ≡ take n (drop at r)
    part = ap (λ k. take k (drop at r)) e

    long : length (take k (drop at r)) ≡ n
    long = ap length part ∙ length-take-le n (drop at r) (omega (arith, length-drop at r))

    start : at + 0 ≡ at
    start = omega arith

    digits_are : digits_at (take k (drop at r)) 0 (length (take k (drop at r))) ≡ digits_at r at n
    digits_are = ap₂ (λ xs m. digits_at xs 0 m) part long ∙ digits-part 0 n (omega arith) ∙ ap (λ i. digits_at r i n) start

    value_is : decimal_at (take k (drop at r)) 0 (length (take k (drop at r))) ≡ decimal_at r at n
    value_is = ap₂ (λ xs m. decimal_at xs 0 m) part long ∙ value-part 0 n 0 (omega arith) ∙ ap (λ i. decimal_at r i n) start

    pub number_stands : (o : Option ℕ) → NumberBy (take k (drop at r)) o → NumberAt r at n o
    number_stands None h = sym digits_are ∙ h
    number_stands (Some m) h = (sym digits_are ∙ h.0, h.1 ∙ value_is, h.2)

-- LAW: digits write a number
pub is_number : (r : List ℕ) (at n : ℕ) (o : Option ℕ) → NumberAt r at n o → digits_at r at n ≡ true → IsSome o
is_number r at n None h e = absurd (false≢true (sym h ∙ e))
is_number r at n (Some m) h e = refl
