-- A number written in four or five digits is read as that number, wherever it stands.
use mathlib.Core.Path.{◌≡◌, refl, sym as inv, ap, ap₂, ◌∙◌}
use mathlib.Core.List.{List, ◌++◌}
use mathlib.Core.Bool.{true, ◌&&◌}
use Prim.Native.Nat.{ℕ, zero, suc, ◌+◌, ◌*◌, ◌-◌, ◌/◌, ◌%◌, ◌≤◌, ◌<◌}
use native.Mathlib.Decide.{dec_lt}
use native.Mathlib.Omega.{arith}
use lib.Dec.{leb}
use lib.ListN.{length, get_or, get_or-append, get_or-eq_default}
use lib.Seq.{get_or-append-add}
use borrow.Author.Tests.{le-leb, leb-true}
use Rattle.theory.proofs.Lemmas.{and_left, and_right}
use Rattle.marc.specs.Frame.{is_digit_lem, digits_at, value_at, decimal_at}
use Rattle.marc.specs.Plain.{digit, four_digits, five_digits}

-- ---- bytes behind others

byte_behind : (p s : List ℕ) (at k : ℕ) → length p ≡ at → get_or (p ++ s) (at + k) 0 ≡ get_or s k 0
byte_behind p s at k e = ap (λ i. get_or (p ++ s) i 0) (omega arith) ∙ get_or-append-add p s k 0

digits_shift : (p s : List ℕ) (at n k : ℕ) → length p ≡ at → digits_at (p ++ s) (at + k) n ≡ digits_at s k n
unfolding digits_at
digits_shift p s at zero k e = refl
digits_shift p s at (suc n) k e =
    let i : at + k + 1 ≡ at + (k + 1) = omega arith in
    ap₂ (λ b c. is_digit_lem b && c) (byte_behind p s at k e) (ap (λ i. digits_at (p ++ s) i n) i ∙ digits_shift p s at n (k + 1) e)

value_shift : (p s : List ℕ) (at n k so : ℕ) → length p ≡ at → value_at (p ++ s) (at + k) n so ≡ value_at s k n so
unfolding value_at
value_shift p s at zero k so e = refl
value_shift p s at (suc n) k so e =
    let i : at + k + 1 ≡ at + (k + 1) = omega arith in
    ap₂ (λ i b. value_at (p ++ s) i n (so * 10 + (b - 48))) i (byte_behind p s at k e) ∙ value_shift p s at n (k + 1) (so * 10 + (get_or s k 0 - 48)) e

-- LAW: digits behind other bytes
pub digits_behind : (p s : List ℕ) (at n : ℕ) → length p ≡ at → digits_at (p ++ s) at n ≡ digits_at s 0 n
digits_behind p s at n e = let z : at ≡ at + 0 = omega arith in ap (λ i. digits_at (p ++ s) i n) z ∙ digits_shift p s at n 0 e

pub decimal_behind : (p s : List ℕ) (at n : ℕ) → length p ≡ at → decimal_at (p ++ s) at n ≡ decimal_at s 0 n
decimal_behind p s at n e = let z : at ≡ at + 0 = omega arith in ap (λ i. value_at (p ++ s) i n 0) z ∙ value_shift p s at n 0 0 e

-- ---- bytes in front of others

-- LAW: digits are told by their own bytes, and there have to be so many
pub digits_front : (s x : List ℕ) (at n : ℕ) → at + n ≤ length s → digits_at (s ++ x) at n ≡ digits_at s at n
unfolding digits_at
digits_front s x at zero l = refl
digits_front s x at (suc n) l = ap₂ (λ b c. is_digit_lem b && c) (get_or-append s x 0 at (omega arith)) (digits_front s x (at + 1) n (omega arith))

value_front : (s x : List ℕ) (at n so : ℕ) → at + n ≤ length s → value_at (s ++ x) at n so ≡ value_at s at n so
unfolding value_at
value_front s x at zero so l = refl
value_front s x at (suc n) so l =
    ap (λ b. value_at (s ++ x) (at + 1) n (so * 10 + (b - 48))) (get_or-append s x 0 at (omega arith))
    ∙ value_front s x (at + 1) n (so * 10 + (get_or s at 0 - 48)) (omega arith)

pub decimal_front : (s x : List ℕ) (at n : ℕ) → at + n ≤ length s → decimal_at (s ++ x) at n ≡ decimal_at s at n
decimal_front s x at n l = value_front s x at n 0 l

pub digits_there : (s : List ℕ) (at n : ℕ) → at ≤ length s → digits_at s at n ≡ true → at + n ≤ length s
unfolding digits_at
digits_there s at zero l e = omega arith
digits_there s at (suc n) l e = here (dec_lt at (length s)) (λ k. digits_there s (at + 1) n k (and_right (is_digit_lem (get_or s at 0)) (digits_at s (at + 1) n) e))
  where
    here : Dec (at < length s) → (at + 1 ≤ length s → at + 1 + n ≤ length s) → at + suc n ≤ length s
    here (yes k) rec = omega (arith, rec (omega arith))
    here (no k) rec =
        let b : get_or s at 0 ≡ 0 = get_or-eq_default s 0 (omega arith) in
        let d : is_digit_lem 0 ≡ true = ap is_digit_lem (inv b) ∙ and_left (is_digit_lem (get_or s at 0)) (digits_at s (at + 1) n) e in
        absurd (omega (arith, leb-true 48 0 (and_left (leb 48 0) (leb 0 57) d)))

-- a digit's value is below 10; so the number of five is below 100,000
digit_most : (b : ℕ) → is_digit_lem b ≡ true → b - 48 ≤ 9
digit_most b e = omega (arith, leb-true b 57 (and_right (leb 48 b) (leb b 57) e))

pub five_most : (s : List ℕ) → digits_at s 0 5 ≡ true → decimal_at s 0 5 ≤ 99999
unfolding digits_at value_at
five_most s e =
    let first = and_left (is_digit_lem (get_or s 0 0)) (digits_at s (0 + 1) 4) e in
    let four = and_right (is_digit_lem (get_or s 0 0)) (digits_at s (0 + 1) 4) e in
    let second = and_left (is_digit_lem (get_or s (0 + 1) 0)) (digits_at s (0 + 1 + 1) 3) four in
    let three = and_right (is_digit_lem (get_or s (0 + 1) 0)) (digits_at s (0 + 1 + 1) 3) four in
    let third = and_left (is_digit_lem (get_or s (0 + 1 + 1) 0)) (digits_at s (0 + 1 + 1 + 1) 2) three in
    let two = and_right (is_digit_lem (get_or s (0 + 1 + 1) 0)) (digits_at s (0 + 1 + 1 + 1) 2) three in
    let fourth = and_left (is_digit_lem (get_or s (0 + 1 + 1 + 1) 0)) (digits_at s (0 + 1 + 1 + 1 + 1) 1) two in
    let one = and_right (is_digit_lem (get_or s (0 + 1 + 1 + 1) 0)) (digits_at s (0 + 1 + 1 + 1 + 1) 1) two in
    let fifth = and_left (is_digit_lem (get_or s (0 + 1 + 1 + 1 + 1) 0)) (digits_at s (0 + 1 + 1 + 1 + 1 + 1) 0) one in
    omega (
      arith,
      digit_most (get_or s 0 0) first,
      digit_most (get_or s (0 + 1) 0) second,
      digit_most (get_or s (0 + 1 + 1) 0) third,
      digit_most (get_or s (0 + 1 + 1 + 1) 0) fourth,
      digit_most (get_or s (0 + 1 + 1 + 1 + 1) 0) fifth,
    )

-- ---- four and five digits

is_digit : (n : ℕ) → is_digit_lem (digit n) ≡ true
is_digit n = rw (le-leb 48 (48 + n % 10) (omega arith), le-leb (48 + n % 10) 57 (omega arith))

-- LAW: they are digits, and write the number
pub four_digits_lem : (n : ℕ) (q : List ℕ) → digits_at (four_digits n ++ q) 0 4 ≡ true
unfolding digits_at
four_digits_lem n q = rw (is_digit (n / 1000), is_digit (n / 100), is_digit (n / 10), is_digit n)

pub five_digits_lem : (n : ℕ) (q : List ℕ) → digits_at (five_digits n ++ q) 0 5 ≡ true
unfolding digits_at
five_digits_lem n q = rw (is_digit (n / 10000), is_digit (n / 1000), is_digit (n / 100), is_digit (n / 10), is_digit n)

-- a digit more
digit_on : (so m : ℕ) → so ≡ m / 10 → so * 10 + (digit m - 48) ≡ m
digit_on so m e = omega arith

hundred : (n : ℕ) → n / 100 ≡ n / 10 / 10
hundred n = omega arith

thousand : (n : ℕ) → n / 1000 ≡ n / 100 / 10
thousand n = omega arith

ten_thousand : (n : ℕ) → n / 10000 ≡ n / 1000 / 10
ten_thousand n = omega arith

-- the last three of them
three_on : (so n : ℕ) → so ≡ n / 1000 → ((so * 10 + (digit (n / 100) - 48)) * 10 + (digit (n / 10) - 48)) * 10 + (digit n - 48) ≡ n
three_on so n e =
    let a = digit_on so (n / 100) (e ∙ thousand n) in
    let b = digit_on (so * 10 + (digit (n / 100) - 48)) (n / 10) (a ∙ hundred n) in
    digit_on ((so * 10 + (digit (n / 100) - 48)) * 10 + (digit (n / 10) - 48)) n b

pub four_value : (n : ℕ) (q : List ℕ) → n < 10000 → decimal_at (four_digits n ++ q) 0 4 ≡ n
unfolding value_at
four_value n q l = three_on (0 * 10 + (digit (n / 1000) - 48)) n (digit_on 0 (n / 1000) (omega arith))

pub five_value : (n : ℕ) (q : List ℕ) → n < 100000 → decimal_at (five_digits n ++ q) 0 5 ≡ n
unfolding value_at
five_value n q l =
    let a = digit_on 0 (n / 10000) (omega arith) in
    three_on ((0 * 10 + (digit (n / 10000) - 48)) * 10 + (digit (n / 1000) - 48)) n (digit_on (0 * 10 + (digit (n / 10000) - 48)) (n / 1000) (a ∙ ten_thousand n))
