-- Row 12 is silent exactly where each of its seven comparisons passes; so the counts of nodes fit the length.
use mathlib.Core.Path.{◌≡◌, refl, ap}
use mathlib.Core.List.{List}
use mathlib.Core.Bool.{Bool, true, false, ◌||◌, not}
use mathlib.Core.Option.{none, some as just}
use Prim.Native.Nat.{ℕ, ◌+◌, ◌*◌, ◌≤◌, ◌<◌}
use native.Mathlib.Omega.{arith}
use borrow.Author.Tests.{eqb-true, eq-eqb, ltb-false, lt-ltb, le-ltb, not-false}
use Rattle.std.proofs.Common.{inl, inr, ◌⊎◌}
use lib.Dec.{eqb, ltb}
use lib.ListN.{length}
use Rattle.theory.proofs.Lemmas.{both_false}
use Rattle.meaning.specs.File.{number}
use Rattle.meaning.specs.Refusals.{row, row_place, at0, misshapen, row12}
use Rattle.shape.specs.Shapes.{WellPlaced}
use Rattle.meaning.proofs.Sound.{at0-none}

-- LAW: a question without fault is well placed
pub placed : (input : List ℕ) → misshapen input (number input 2) (number input 4) ≡ false → WellPlaced input
placed input e =
    let m = number input 2 in
    let n = number input 4 in
    let short = ltb 65535 (length input) || ltb (length input) 14 in
    let a = not (eqb (number input 6) 14) in
    let b = not (eqb (number input 8) (14 + 2 * m)) in
    let c = not (eqb (number input 10) (14 + 2 * m + 2 * n)) in
    let d = not (eqb (number input 12) (length input)) in
    let past = ltb (number input 12) (number input 10) in
    let s = both_false (short || a || b || c || d) past e in
    let t = both_false (short || a || b || c) d s.0 in
    let u = both_false (short || a || b) c t.0 in
    let v = both_false (short || a) b u.0 in
    let w = both_false short a v.0 in
    let at_table = eqb-true (number input 10) (14 + 2 * m + 2 * n) (not-false _ u.1) in
    let at_end = eqb-true (number input 12) (length input) (not-false _ t.1) in (
      eqb-true (number input 6) 14 (not-false _ w.1),
      eqb-true (number input 8) (14 + 2 * m) (not-false _ v.1),
      at_table,
      at_end,
      omega (arith, at_table, at_end, ltb-false (number input 12) (number input 10) s.1),
    )

-- LAW: the nodes of a question that is not misshapen lie inside it
pub nodes_inside : (input : List ℕ) → row12 input ≡ row 12 none → 14 + 2 * number input 2 + 2 * number input 4 ≤ length input
unfolding row12
nodes_inside input e = (placed input (at0-none (misshapen input (number input 2) (number input 4)) (ap row_place e))).4

-- LAW: a question that is too long or too short is misshapen
pub outside_row : (input : List ℕ) → (65535 < length input) ⊎ (length input < 14) → row12 input ≡ row 12 (just 0)
unfolding row12
outside_row input (inl long) = rw (lt-ltb 65535 (length input) long)
outside_row input (inr short) = rw (le-ltb 65535 (length input) (omega arith), lt-ltb (length input) 14 short)

module _ (input : List ℕ) where
  -- LAW: any other is misshapen where it is not well placed, and only there
  pub misplaced_row : (WellPlaced input → ⊥) → row12 input ≡ row 12 (just 0)
  unfolding row12
  misplaced_row not_so = go (misshapen input (number input 2) (number input 4)) refl
    where
      go : (b : Bool) → misshapen input (number input 2) (number input 4) ≡ b → row 12 (at0 (misshapen input (number input 2) (number input 4))) ≡ row 12 (just 0)
      go true e = ap (λ b. row 12 (at0 b)) e
      go false e = absurd (not_so (placed input e))

  pub placed_row : 14 ≤ length input → length input ≤ 65535 → WellPlaced input → row12 input ≡ row 12 none
  unfolding row12
  placed_row some few (at_14, at_heading, at_table, at_end, inside) =
      rw (
        le-ltb 65535 (length input) few,
        le-ltb (length input) 14 some,
        eq-eqb (number input 6) 14 at_14,
        eq-eqb (number input 8) (14 + 2 * number input 2) at_heading,
        eq-eqb (number input 10) (14 + 2 * number input 2 + 2 * number input 4) at_table,
        eq-eqb (number input 12) (length input) at_end,
        le-ltb (number input 12) (number input 10) (omega arith),
      )
