-- What rows say of a file's size: rows 3 and 4 hold inside their lists, since the least number below n that passes a test is below n; and where
-- the offsets pass, the file has the length that its counts ask for.
use mathlib.Core.Path.{◌≡◌, sym, ap, ◌∙◌}
use mathlib.Core.List.{List}
use mathlib.Core.Bool.{Bool, true, false, ◌||◌, not, cond}
use mathlib.Core.Option.{Option, none, some as just, some-ne-none, some-injective}
use Prim.Native.Nat.{ℕ, zero, suc, ◌<◌}
use native.Mathlib.Omega.{arith}
use borrow.Author.Tests.{eqb-true, not-false}
use lib.ListN.{length}
use lib.Dec.{eqb}
use Rattle.theory.specs.Least.{or_else, least_below}
use Rattle.theory.specs.Pairs.{Pair}
use Rattle.theory.proofs.Lemmas.{both_false}
use Rattle.meaning.specs.File.{symbol_count_lem, pair_count_lem, arities_offset, pairs_offset, total_field, pairs_at_lem, total}
use Rattle.meaning.specs.Refusals.{row, row_place, row1_offsets, row3, row4}
use Rattle.meaning.proofs.Sound.{at0-none}

-- LAW: the least number below n is below n
pub least_inside : (b : ℕ → Bool) (n k : ℕ) → least_below n b ≡ just k → k < n
least_inside b zero k e = absurd (some-ne-none k (sym e))
least_inside b (suc n) k e = go (least_below n b) (b n) e (least_inside b n k)
  where
    go : (o : Option ℕ) (t : Bool) → or_else o (cond t (just n) none) ≡ just k → (o ≡ just k → k < n) → k < suc n
    go (just i) t e rest = omega (arith, rest e)
    go none true e rest = omega (arith, some-injective n k e)
    go none false e rest = absurd (some-ne-none k (sym e))

-- LAW: a symbol whose arity is too high is one of the list's
pub row3_inside : (arities : List ℕ) (k : ℕ) → row3 arities ≡ row 3 (just k) → k < length arities
unfolding row3
row3_inside arities k e = least_inside _ (length arities) k (ap row_place e)

-- LAW: a pair that is bad is one of the list's
pub row4_inside : (arities : List ℕ) (pairs : List Pair) (k : ℕ) → row4 arities pairs ≡ row 4 (just k) → k < length pairs
unfolding row4
row4_inside arities pairs k e = least_inside _ (length pairs) k (ap row_place e)

-- LAW: a file whose offsets and total are in order is as long as its counts ask for
pub placed_length : (file : List ℕ) → row1_offsets file ≡ row 1 none → length file ≡ total (symbol_count_lem file) (pair_count_lem file)
unfolding row1_offsets
placed_length file e =
    let a = not (eqb (arities_offset file) 10) in
    let b = not (eqb (pairs_offset file) (pairs_at_lem (symbol_count_lem file))) in
    let c = not (eqb (total_field file) (total (symbol_count_lem file) (pair_count_lem file))) in
    let d = not (eqb (total_field file) (length file)) in
    let t = both_false (a || b || c) d (at0-none (a || b || c || d) (ap row_place e)) in
    let u = both_false (a || b) c t.0 in
    sym (eqb-true (total_field file) (length file) (not-false _ t.1)) ∙ eqb-true (total_field file) (total (symbol_count_lem file) (pair_count_lem file)) (not-false _ u.1)
