-- How high the places of the call's refusals are: an entry's place is below the number of strings, and a byte's below the record's length, which
-- is written in five digits.
use mathlib.Core.Path.{◌≡◌, refl, sym as inv, ap, ◌∙◌}
use mathlib.Core.List.{List, [], ◌∷◌, ◌++◌}
use mathlib.Core.Bool.{Bool, true, false, ◌||◌, not}
use mathlib.Core.Option.{Option, none, some as just, some-ne-none, some-injective}
use Prim.Native.Nat.{ℕ, zero, suc, ◌+◌, ◌-◌, ◌%◌, ◌≤◌, ◌<◌}
use native.Mathlib.Decide.{dec_lt}
use native.Mathlib.Omega.{arith}
use lib.Dec.{eqb, ltb, leb}
use lib.ListN.{length, get_or}
use borrow.Author.Tests.{leb-true, ltb-true, eqb-true, not-false}
use Rattle.theory.specs.Least.{or_else, least_below}
use Rattle.theory.proofs.Lemmas.{and_left, and_right, both_false, least_just}
use Rattle.meaning.specs.Refusals.{refusal, Row, row, at0, first, row8-output}
use Rattle.meaning.proofs.First.{none_below}
use Rattle.meaning.proofs.Sound.{at0-none}
use Rattle.marc.specs.Frame.{is_digit_lem, digits_at, value_at, decimal_at, record_length, base_address, entry_count, entry_at, field_end, field_mark, record_mark, at_if, first_place, bad_length, bad_base, bad_field_length, bad_field_start, entry_fault, unmarked, frame_rows}
use Rattle.marc.specs.Known.{Known, bad_entry_lem, row19}
use Rattle.marc.specs.Heading.{missing, field100, name_in, dates_in, row20, row21, row22, unlisted, heading_rows}
use Rattle.marc.proofs.Frames.{or_none, at_none, no_place}

-- ---- numbers in digits

digit-first : (r : List ℕ) (at n : ℕ) → digits_at r at (suc n) ≡ true → (get_or r at 0 ≤ 57) × (digits_at r (at + 1) n ≡ true)
unfolding digits_at
digit-first r at n e =
    let b = get_or r at 0 in
    let d = and_left (is_digit_lem b) (digits_at r (at + 1) n) e in
    (leb-true b 57 (and_right (leb 48 b) (leb b 57) d), and_right (is_digit_lem b) (digits_at r (at + 1) n) e)

-- LAW: five digits write no more than 99,999
five_most : (r : List ℕ) (at : ℕ) → digits_at r at 5 ≡ true → decimal_at r at 5 ≤ 99999
unfolding value_at
five_most r at e =
    let a = digit-first r at 4 e in
    let b = digit-first r (at + 1) 3 a.1 in
    let c = digit-first r (at + 1 + 1) 2 b.1 in
    let d = digit-first r (at + 1 + 1 + 1) 1 c.1 in
    let f = digit-first r (at + 1 + 1 + 1 + 1) 0 d.1 in
    omega (arith, a.0, b.0, c.0, d.0, f.0)

-- ---- places that are given

place_is : (place : ℕ) (b : Bool) (p : ℕ) → at_if place b ≡ just p → p ≡ place
place_is place true p e = inv (some-injective place p e)
place_is place false p e = absurd (some-ne-none p (inv e))

pub least_inside : (b : ℕ → Bool) (n v : ℕ) → least_below n b ≡ just v → v < n
least_inside b n v e = go (dec_lt v n)
  where
    go : Dec (v < n) → v < n
    go (yes l) = l
    go (no m) = absurd (some-ne-none v (inv e ∙ none_below b n (λ k l. (least_just n b v e).least k (omega arith))))

-- the first place is that of some number
given_place : (n : ℕ) (f : ℕ → Option ℕ) (p : ℕ) → first_place n f ≡ just p → (k : ℕ) × (k < n) × (f k ≡ just p)
given_place zero f p e = absurd (some-ne-none p (inv e))
given_place (suc n) f p e = go (first_place n f) refl e (given_place n f p)
  where
    go : (o : Option ℕ) → first_place n f ≡ o → or_else o (f n) ≡ just p → (first_place n f ≡ just p → (k : ℕ) × (k < n) × (f k ≡ just p)) → (k : ℕ) × (k < suc n) × (f k ≡ just p)
    go (just i) q e rest = let g = rest (q ∙ e) in (g.0, omega (arith, g.1), g.2)
    go none q e rest = (n, omega arith, e)

-- ---- rows

-- where a row holds its place is no higher, and where none has held so far, nor is that of a later one
abbrev Low : ℕ → List Row → Type 0
Low high [] = Unit {0}
Low high (row m o ∷ rows) = ((p : ℕ) → o ≡ just p → p ≤ high) × (o ≡ none → Low high rows)

low_first : (high : ℕ) (rows : List Row) → Low high rows → (n place : ℕ) → first rows ≡ just (refusal n place) → place ≤ high
low_first high [] l n place e = absurd (some-ne-none (refusal n place) (inv e))
low_first high (row m (just i) ∷ rows) l n place e = let q : i ≡ place = cc in l.0 place (ap just q)
low_first high (row m none ∷ rows) l n place e = low_first high rows (l.1 refl) n place e

low_append : (high : ℕ) (xs ys : List Row) → Low high xs → Low high ys → Low high (xs ++ ys)
low_append high [] ys l k = k
low_append high (row m o ∷ xs) ys l k = (l.0, λ e. low_append high xs ys (l.1 e) k)

zero_low : (high : ℕ) (b : Bool) (p : ℕ) → at0 b ≡ just p → p ≤ high
zero_low high b p e = let q = place_is 0 b p e in omega (arith, q)

-- ---- the frame

-- what is known where the length, and then the base address, passes its test
short : (r : List ℕ) → bad_length r ≡ false → length r ≤ 99999
short r e =
    let s = both_false (not (digits_at r 0 5)) (not (eqb (record_length r) (length r))) e in
    let is = eqb-true (record_length r) (length r) (not-false _ s.1) in
    omega (arith, is, five_most r 0 (not-false _ s.0))

based : (r : List ℕ) → bad_base r ≡ false → base_address r < length r
based r e =
    let first_three = not (digits_at r 12 5) || ltb (base_address r) 25 || not (eqb ((base_address r - 25) % 12) 0) in
    ltb-true (base_address r) (length r) (not-false _ (both_false first_three (not (ltb (base_address r) (length r))) e).1)

-- where an entry passes, its field ends inside
ends_inside : (r : List ℕ) (e : ℕ) → entry_fault r e ≡ none → field_end r e < length r
ends_inside r e f =
    let o = or_none (at_if (entry_at e + 3) (bad_field_length r e)) (at_if (entry_at e + 7) (bad_field_start r e)) f in
    let s = both_false (not (digits_at r (entry_at e + 7) 5)) (not (ltb (field_end r e) (length r))) (at_none (entry_at e + 7) (bad_field_start r e) o.1) in
    ltb-true (field_end r e) (length r) (not-false _ s.1)

entry_place : (r : List ℕ) (e p : ℕ) → entry_fault r e ≡ just p → p ≤ entry_at e + 7
entry_place r e p f = go (bad_field_length r e) (bad_field_start r e) f
  where
    go : (a b : Bool) → or_else (at_if (entry_at e + 3) a) (at_if (entry_at e + 7) b) ≡ just p → p ≤ entry_at e + 7
    go true b f = let q = some-injective (entry_at e + 3) p f in omega (arith, q)
    go false b f = let q = place_is (entry_at e + 7) b p f in omega (arith, q)

-- LAW: 17 is at one of the first 100,000 bytes
frame_low : (r : List ℕ) (high : ℕ) → 99999 ≤ high → Low high (frame_rows r)
unfolding frame_rows
frame_low r high h = (
  zero_low high (ltb (length r) 26),
  λ a. (
    zero_low high (bad_length r),
    λ b.
        let long = short r (at0-none (bad_length r) b) in (
          λ p e. let q = place_is 12 (bad_base r) p e in omega (arith, q),
          λ c.
              let base = based r (at_none 12 (bad_base r) c) in (
                λ p e. let g = given_place (entry_count r) (entry_fault r) p e in let q = entry_place r g.0 p g.2 in omega (arith, base, long, q, g.1),
                λ d. (
                  λ p e. let q = place_is (base_address r - 1) (not (eqb (get_or r (base_address r - 1) 0) field_mark)) p e in omega (arith, base, long, q),
                  λ f. (
                    λ p e.
                        let g = given_place (entry_count r) (λ k. unmarked r (field_end r k - 1) field_mark) p e in
                        let q = place_is (field_end r g.0 - 1) (not (eqb (get_or r (field_end r g.0 - 1) 0) field_mark)) p g.2 in
                        let inside = ends_inside r g.0 (no_place (entry_count r) (entry_fault r) d g.0 g.1) in
                        omega (arith, long, q, inside),
                    λ m. (
                      λ p e. let q = place_is (length r - 1) (not (eqb (get_or r (length r - 1) 0) record_mark)) p e in omega (arith, long, q),
                      λ l. tt,
                    ),
                  ),
                ),
              ),
        ),
  ),
)

-- ---- the call

strings_low : (high : ℕ) → 1 ≤ high → (a b : Bool) (p : ℕ) → or_else (at_if 0 a) (at_if 1 b) ≡ just p → p ≤ high
strings_low high h true b p e = let q = some-injective 0 p e in omega (arith, q)
strings_low high h false b p e = let q = place_is 1 b p e in omega (arith, q)

-- THEOREM: no place is above both the last string's and 99,999
pub heading_place : (r : List ℕ) (ks : List Known) (heading absent : ℕ) (output : List ℕ) (high : ℕ) → length ks ≤ suc high → 99999 ≤ high
    → (n place : ℕ) → first (heading_rows r ks heading absent output) ≡ just (refusal n place) → place ≤ high
unfolding heading_rows row19 row8-output row20 row21 row22
heading_place r ks heading absent output high few h =
    low_first high (heading_rows r ks heading absent output) (
      λ p e. let l = least_inside (bad_entry_lem ks absent) (length ks) p e in omega (arith, l, few),
      λ a. (
        zero_low high (ltb (length output) 3),
        λ b.
            low_append high (frame_rows r) _ (frame_low r high h) (
              zero_low high (missing (field100 r)),
              λ c. (zero_low high (missing (name_in r)), λ d. (strings_low high (omega arith) (unlisted ks (name_in r)) (unlisted ks (dates_in r)), λ e. tt)),
            ),
      ),
    )
