-- Runs of pairs. Faults are joined by bits, so that none is found only if each is 0; numbers that pass in their lanes make pairs that are in order and in their
-- ranges; and such pairs, where their arities agree too, are good.
use mathlib.Core.Path.{◌≡◌, sym, ap, subst, ◌∙◌}
use mathlib.Core.Bool.{Bool, true, false, ◌&&◌, not}
use mathlib.Core.List.{List}
use mathlib.Core.Option.{none}
use Prim.Native.Nat.{ℕ, zero, suc, ◌+◌, ◌*◌, ◌<◌}
use native.Mathlib.Numerals.{unary_clauses, add-one}
use native.Mathlib.Omega.{arith}
use borrow.Author.Tests.{lt-ltb, le-ltb, eq-eqb, not-true}
use lib.Bits.{bit_or, or_add_and, and_le_l, and_le_r}
use lib.Dec.{ltb}
use lib.ListN.{length, get_or}
use Rattle.theory.specs.Least.{least_below}
use Rattle.theory.specs.Pairs.{Pair, pair, listed_top}
use Rattle.meaning.specs.Refusals.{unsound, bad_pair_lem}
use Rattle.meaning.proofs.First.{least_on}
use Rattle.table.specs.Keys.{key_of, pair_key}
use Rattle.table.specs.Runs.{LanePasses, pair_of, Follows, Next, Alike, OrderedRun, AlikeRun}
use Rattle.table.proofs.Rising.{Short, good_pair}

-- LAW: what is joined is 0 only if both are
pub or_none : (a b : ℕ) → bit_or a b ≡ 0 → (a ≡ 0) × (b ≡ 0)
or_none a b e = (omega (arith, or_add_and a b, and_le_r a b), omega (arith, or_add_and a b, and_le_l a b))

-- LAW: where every lane passes, the pairs are in order and in their ranges
pub lanes_ordered : (symbols : ℕ) (numbers : ℕ → ℕ) → ((lane : ℕ) → lane < 48 → LanePasses symbols numbers lane) → OrderedRun symbols numbers
lanes_ordered symbols numbers passes j l =
    let higher = (passes (3 * j) (omega arith)).0 (omega arith) in
    let degree = (passes (3 * j + 1) (omega arith)).1 (omega arith) in
    let a : 3 * (j + 1) ≡ 3 * j + 3 = omega arith in
    let b : 3 * (j + 1) + 1 ≡ 3 * j + 4 = omega arith in
    let c : 3 * (j + 1) + 2 ≡ 3 * j + 1 + 4 = omega arith in
    rw (c, b, a) (record { rising = higher.0; inside = higher.1; some_degree = degree.0; top_degree = degree.1; after = higher.2 })

-- a pair's tests, each known
tests : (arities : List ℕ) (before lower higher degree : ℕ) → Follows (length arities) before lower higher degree → get_or arities lower 0 ≡ get_or arities higher 0
    → (not (unsound arities (pair lower higher degree)) && ltb before (key_of lower higher)) ≡ true
tests arities before lower higher degree f alike =
    rw (lt-ltb lower higher f.rising, lt-ltb higher (length arities) f.inside, eq-eqb (get_or arities lower 0) (get_or arities higher 0) alike, le-ltb degree 1 f.some_degree, le-ltb listed_top degree f.top_degree, lt-ltb before (key_of lower higher) f.after)

module _ (arities : List ℕ) (pairs : List Pair) (short : (j : ℕ) → Short (get_or pairs j (pair 0 0 0))) where
  abbrev at : ℕ → Pair
  at k = get_or pairs k (pair 0 0 0)

  abbrev bad : ℕ → Bool
  bad = bad_pair_lem arities pairs

  next_tests : (p q : Pair) → Next (length arities) p q → Alike arities q → (not (unsound arities q) && ltb (pair_key p) (pair_key q)) ≡ true
  next_tests p (pair lower higher degree) next alike = tests arities (pair_key p) lower higher degree next alike

  good_next : (k : ℕ) → Next (length arities) (at k) (at (suc k)) → Alike arities (at (suc k)) → bad (suc k) ≡ false
  good_next k next alike = not-true _ (sym (good_pair arities pairs (suc k) short) ∙ next_tests (at k) (at (suc k)) next alike)

  -- where n pairs after pair k are good, no pair is bad up to their end
  good_on : (k n : ℕ) → least_below (suc k) bad ≡ none → ((j : ℕ) → j < n → bad (suc (k + j)) ≡ false) → least_below (suc (k + n)) bad ≡ none
  good_on k zero e good = simp unary_clauses e
  good_on k (suc n) e good = simp unary_clauses (least_on bad (suc (k + n)) (good_on k n e (λ j l. good j (omega arith))) (good n (omega arith)))

  -- LAW: where a run comes after a pair up to which none is bad, and passes, none is bad up to its end
  pub run_good : (k : ℕ) (numbers : ℕ → ℕ) → ((j : ℕ) → j < 17 → pair_of numbers j ≡ at (k + j)) → OrderedRun (length arities) numbers → AlikeRun arities numbers
      → least_below (k + 1) bad ≡ none → least_below (k + 16 + 1) bad ≡ none
  run_good k numbers same ordered alike e = rw (add-one (k + 16)) (good_on k 16 (rw (add-one k) at e) good)
    where
      good : (j : ℕ) → j < 16 → bad (suc (k + j)) ≡ false
      good j l =
          let n : k + (j + 1) ≡ suc (k + j) = omega arith in
          let q : pair_of numbers (j + 1) ≡ at (suc (k + j)) = same (j + 1) (omega arith) ∙ ap at n in
          good_next (k + j)
          (subst (λ p. Next (length arities) (at (k + j)) p) q (subst (λ p. Next (length arities) p (pair_of numbers (j + 1))) (same j (omega arith)) (ordered j l)))
          (subst (Alike arities) q (alike j l))
