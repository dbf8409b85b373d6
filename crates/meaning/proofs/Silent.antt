-- Where what a row tests is as it has to be, the row does not hold: each test then computes to false. (The other way round: proofs/Sound.)
use mathlib.Core.Path.{◌≡◌, refl, ap, ap₂}
use mathlib.Core.List.{List}
use mathlib.Core.Bool.{false, ◌||◌, not}
use Prim.Native.Nat.{ℕ, zero, suc, ◌≤◌, ◌<◌}
use native.Mathlib.Omega.{arith}
use lib.ListN.{length, get_or}
use borrow.Author.Tests.{lt-ltb, le-ltb, eq-eqb}
use Rattle.theory.specs.Pairs.{Pair, pair, listed_top, SoundPair}
use Rattle.meaning.specs.Limits.{most_symbols, most_pairs, most_arguments}
use Rattle.meaning.specs.File.{symbol_count_lem, pair_count_lem, arities_offset, pairs_offset, total_field, pairs_at_lem, total}
use Rattle.meaning.specs.Refusals.{at0, outside, unsound, unordered, bad_pair_lem, row1_short, row1_offsets, row2, row3, row4, row5, row8-output}
use Rattle.meaning.proofs.First.{Silent, none_below}
use Rattle.meaning.proofs.Sound.{Offsets}
use Rattle.meaning.proofs.Rising.{After, after_rises}

-- n is not outside low to high
inside_false : (low high n : ℕ) → low ≤ n → n ≤ high → outside low high n ≡ false
inside_false low high n a b = rw (le-ltb n low a, le-ltb high n b)

-- ---- header, counts, offsets, arities

pub silent_short : (file : List ℕ) → 10 ≤ length file → Silent (row1_short file)
unfolding row1_short
silent_short file l = rw (le-ltb (length file) 10 l)

pub silent_counts : (s p : ℕ) → 1 ≤ s → s ≤ most_symbols → p ≤ most_pairs → Silent (row2 s p)
unfolding row2
silent_counts s p a b c = ap₂ (λ x y. at0 (x || y)) (inside_false 1 most_symbols s a b) (inside_false 0 most_pairs p (omega arith) c)

pub silent_offsets : (file : List ℕ) → Offsets file → Silent (row1_offsets file)
unfolding row1_offsets
silent_offsets file o =
    rw (
      eq-eqb (arities_offset file) 10 o.of_arities,
      eq-eqb (pairs_offset file) (pairs_at_lem (symbol_count_lem file)) o.of_pairs,
      eq-eqb (total_field file) (total (symbol_count_lem file) (pair_count_lem file)) o.of_total,
      eq-eqb (total_field file) (length file) o.of_length,
    )

pub silent_arities : (arities : List ℕ) → ((a : ℕ) → a < length arities → get_or arities a 0 ≤ most_arguments) → Silent (row3 arities)
unfolding row3
silent_arities arities low = none_below _ (length arities) (λ a l. le-ltb most_arguments (get_or arities a 0) (low a l))

-- ---- pairs

sound_false : (arities : List ℕ) (p : Pair) → SoundPair arities p → unsound arities p ≡ false
sound_false arities (pair l h d) s =
    rw (
      lt-ltb l h s.0,
      lt-ltb h (length arities) s.1,
      eq-eqb (get_or arities l 0) (get_or arities h 0) s.2,
      inside_false 1 listed_top d s.3 s.4,
    )

module _ (arities : List ℕ) (pairs : List Pair) (sound : (k : ℕ) → k < length pairs → SoundPair arities (get_or pairs k (pair 0 0 0)))
    (rising : (k : ℕ) → suc k < length pairs → After (get_or pairs k (pair 0 0 0)) (get_or pairs (suc k) (pair 0 0 0))) where
  ordered : (k : ℕ) → k < length pairs → unordered pairs k ≡ false
  ordered zero l = refl
  ordered (suc k) l = ap not (after_rises (get_or pairs k (pair 0 0 0)) (get_or pairs (suc k) (pair 0 0 0)) (rising k l))

  pub silent_pairs : Silent (row4 arities pairs)
  unfolding row4
  silent_pairs = none_below (bad_pair_lem arities pairs) (length pairs) (λ k l. rw (sound_false arities (get_or pairs k (pair 0 0 0)) (sound k l)) (ordered k l))

-- ---- cut and room

pub silent_cut : (cut : ℕ) → 1 ≤ cut → cut ≤ 1000 → Silent (row5 cut)
unfolding row5
silent_cut cut a b = ap at0 (inside_false 1 1000 cut a b)

pub silent_output : (n : ℕ) (output : List ℕ) → n ≤ length output → Silent (row8-output n output)
unfolding row8-output
silent_output n output l = rw (le-ltb (length output) n l)
