-- A record's length has five digits, so that no record of more than 99,999 bytes says how long it is: 17 holds at 0, as it does where there are no
-- bytes at all, unless an earlier row does.
use mathlib.Core.Path.{◌≡◌, refl, sym, ap, ◌∙◌}
use mathlib.Core.List.{List, [], ◌∷◌, ◌++◌}
use mathlib.Core.Bool.{Bool, true, false, ◌&&◌, ◌||◌, not}
use mathlib.Core.Option.{none, some as just}
use Prim.Native.Nat.{ℕ, ◌-◌, ◌≤◌, ◌<◌}
use native.Mathlib.Omega.{arith}
use lib.Dec.{eqb, leb}
use lib.ListN.{length, get_or}
use borrow.Author.Tests.{le-ltb, ne_eqb, leb-true}
use Rattle.theory.proofs.Lemmas.{and_left, and_right}
use Rattle.meaning.specs.Refusals.{refusal, Row, row, first, row8-output}
use Rattle.meaning.specs.Calls.{aye, unless, zeros}
use Rattle.marc.specs.Frame.{is_digit_lem, digits_at, value_at, record_length, bad_length, frame_rows}
use Rattle.marc.specs.Known.{Known, row19}
use Rattle.marc.specs.Heading.{row20, row21, row22, heading_rows, heading_of, headed}
use Rattle.marc.specs.Printed.{answer_line, answer_text}

-- a digit is at most 9
nine : (b : ℕ) → is_digit_lem b ≡ true → b - 48 ≤ 9
nine b e = omega (arith, leb-true b 57 (and_right (leb 48 b) (leb b 57) e))

-- the value of five digits
five_below : (r : List ℕ) → digits_at r 0 5 ≡ true → record_length r ≤ 99999
unfolding digits_at value_at
five_below r e =
    let d : ℕ → Bool = λ i. is_digit_lem (get_or r i 0) in
    let a = and_left (d 0) (d 1 && (d 2 && (d 3 && (d 4 && true)))) e in
    let e₁ = and_right (d 0) (d 1 && (d 2 && (d 3 && (d 4 && true)))) e in
    let e₂ = and_right (d 1) (d 2 && (d 3 && (d 4 && true))) e₁ in
    let e₃ = and_right (d 2) (d 3 && (d 4 && true)) e₂ in
    let e₄ = and_right (d 3) (d 4 && true) e₃ in
    omega (
      arith,
      nine (get_or r 0 0) a,
      nine (get_or r 1 0) (and_left (d 1) (d 2 && (d 3 && (d 4 && true))) e₁),
      nine (get_or r 2 0) (and_left (d 2) (d 3 && (d 4 && true)) e₂),
      nine (get_or r 3 0) (and_left (d 3) (d 4 && true) e₃),
      nine (get_or r 4 0) (and_left (d 4) true e₄),
    )

long_bad : (r : List ℕ) → 99999 < length r → bad_length r ≡ true
long_bad r l = by_digits (digits_at r 0 5) refl
  where
    by_digits : (d : Bool) → digits_at r 0 5 ≡ d → not d || not (eqb (record_length r) (length r)) ≡ true
    by_digits true e = rw (ne_eqb (record_length r) (length r) (λ q. omega (arith, five_below r e)))
    by_digits false e = refl

-- 17 at 0 is the first row of the frame that holds
abbrev FrameRefused : List ℕ → Type 0
FrameRefused r = (others : List Row) → first (frame_rows r ++ others) ≡ just (refusal 17 0)

long_frame : (r : List ℕ) → 99999 < length r → FrameRefused r
unfolding frame_rows
long_frame r l others = rw (le-ltb (length r) 26 (omega arith), long_bad r l)

no_frame : FrameRefused []
unfolding frame_rows
no_frame others = refl

-- behind two rows, which may hold before it
behind_two : (a b : Row) (rows : List Row) → first rows ≡ just (refusal 17 0) → first (a ∷ b ∷ rows) ≡ first (a ∷ b ∷ row 17 (just 0) ∷ [])
behind_two (row n (just i)) b rows e = refl
behind_two (row n none) (row m (just i)) rows e = refl
behind_two (row n none) (row m none) rows e = e

module _ (heading absent : ℕ) (ks : List Known) (output : List ℕ) where
  abbrev refusing : List Row
  refusing = row19 ks absent ∷ row8-output 3 output ∷ row 17 (just 0) ∷ []

  rows_are : (r : List ℕ) → FrameRefused r → first (heading_rows r ks heading absent output) ≡ first refusing
  unfolding heading_rows
  rows_are r e = let others = row20 r ∷ row21 r ∷ row22 ks r ∷ [] in behind_two (row19 ks absent) (row8-output 3 output) (frame_rows r ++ others) (e others)

-- a refusal's line has no nodes
same_line : (a b : Row) (one two : List ℕ) → let o = first (a ∷ b ∷ row 17 (just 0) ∷ []) in answer_line (unless o aye) one ≡ answer_line (unless o aye) two
same_line (row n (just i)) b one two = refl
same_line (row n none) (row m (just i)) one two = refl
same_line (row n none) (row m none) one two = refl

-- LAW: so it is answered as a record of no bytes
pub long_answered : (heading absent : ℕ) (ks : List Known) (r : List ℕ) → 99999 < length r → answer_text heading absent ks r ≡ answer_text heading absent ks []
unfolding answer_text headed
long_answered heading absent ks r l =
    let output = zeros 3 in
    ap (λ o. answer_line (unless o aye) (heading_of r ks heading absent output)) (rows_are heading absent ks output r (long_frame r l))
    ∙ same_line (row19 ks absent) (row8-output 3 output) (heading_of r ks heading absent output) (heading_of [] ks heading absent output)
    ∙ ap (λ o. answer_line (unless o aye) (heading_of [] ks heading absent output)) (sym (rows_are heading absent ks output [] no_frame))
