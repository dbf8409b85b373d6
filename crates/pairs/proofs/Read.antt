-- The pairs by their numbers as they are read: pair k has the numbers from 3k on, so what is told of these numbers is told of the pair.
use mathlib.Core.Path.{◌≡◌, sym, ap, subst, ◌∙◌}
use mathlib.Core.List.{List}
use mathlib.Core.Bool.{false, ◌&&◌, not}
use Prim.Native.Nat.{ℕ, ◌+◌, ◌*◌, ◌≤◌, ◌<◌}
use native.Mathlib.Numerals.{add-one}
use native.Mathlib.Omega.{arith}
use lib.Dec.{ltb}
use lib.ListN.{length, get_or}
use Rattle.theory.specs.Pairs.{Pair, pair}
use Rattle.theory.proofs.Lemmas.{both_false}
use Rattle.meaning.specs.Refusals.{unsound, bad_pair_lem}
use Rattle.meaning.proofs.Sound.{sound_pair}
use Rattle.table.specs.Keys.{key_before_lem, pair_key}
use Rattle.table.specs.Runs.{pair_of}
use Rattle.table.proofs.Rising.{good_pair}
use Rattle.pairs.specs.Reads.{numbers_from, Reads}

module _ (numbers : ℕ → ℕ) (pairs : List Pair) (whole : ℕ) (reads : Reads numbers pairs whole) where
  -- LAW: the key that the pair after pair k has to exceed
  pub key_next : (k : ℕ) → k < whole → key_before_lem pairs (k + 1) ≡ pair_key (pair_of numbers k)
  key_next k l = rw (add-one k) (ap pair_key (reads.are k l))

  -- LAW: pair j of the numbers from pair k on is pair k + j
  pub pair_of_run : (k at : ℕ) → at ≡ 3 * k → (j : ℕ) → k + j < whole → pair_of (numbers_from numbers at) j ≡ get_or pairs (k + j) (pair 0 0 0)
  pair_of_run k at e j l =
      let a : at + 3 * j ≡ 3 * (k + j) = omega arith in
      let b : at + (3 * j + 1) ≡ 3 * (k + j) + 1 = omega arith in
      let c : at + (3 * j + 2) ≡ 3 * (k + j) + 2 = omega arith in
      rw (c, b, a, reads.are (k + j) l)

  module _ (arities : List ℕ) where
    -- LAW: pair k is good exactly if its numbers may be listed and have a key above the one before
    pub good_read : (k : ℕ) (p : Pair) → p ≡ pair_of numbers k → k < whole
        → (not (unsound arities p) && ltb (key_before_lem pairs k) (pair_key p)) ≡ not (bad_pair_lem arities pairs k)
    good_read k p e l =
        subst (λ p. (not (unsound arities p) && ltb (key_before_lem pairs k) (pair_key p)) ≡ not (bad_pair_lem arities pairs k)) (reads.are k l ∙ sym e) (good_pair arities pairs k reads.short)

    -- LAW: where the first pair is good, there are two symbols or more
    pub two_symbols : 0 < whole → bad_pair_lem arities pairs 0 ≡ false → 2 ≤ length arities
    two_symbols some good =
        let first = get_or pairs 0 (pair 0 0 0) in
        let sound = subst (λ p. unsound arities p ≡ false) (reads.are 0 some) (both_false (unsound arities first) false good).0 in
        let p = sound_pair arities (pair_of numbers 0) sound in
        omega (arith, p.0, p.1)
