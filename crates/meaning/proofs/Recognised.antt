-- A file is not refused exactly if it is a table: no row holds exactly if what each tests is so, and what the rows test of the lists that
-- are read holds of the bytes where they stand.
use mathlib.Core.Path.{◌≡◌, sym as inv, ◌∙◌, subst}
use mathlib.Core.List.{List}
use Prim.Native.Nat.{ℕ, suc, ◌≤◌, ◌<◌}
use native.Mathlib.Omega.{arith}
use lib.ListN.{length, get_or}
use borrow.Author.Tests.{not-false}
use Rattle.theory.specs.Pairs.{pair, SoundPair}
use Rattle.theory.proofs.Lemmas.{all_get_d}
use Rattle.meaning.specs.Limits.{most_arguments}
use Rattle.meaning.specs.File.{symbol_count_lem, pair_count_lem, arities_in, pair_at, pairs_in}
use Rattle.meaning.specs.Refusals.{SoundFile, rises, table_rows}
use Rattle.meaning.specs.Tables.{pair_start, lower_at, higher_at, ListedWell, StandsBefore, TableFile, Recognised}
use Rattle.meaning.proofs.First.{silent_first}
use Rattle.meaning.proofs.Bytes.{pair_in_lem, arity_in}
use Rattle.meaning.proofs.Sound.{Passed, passed, length-pairs_in, length_arities, length-arities_in}
use Rattle.meaning.proofs.Rising.{After, rises_after}
use Rattle.meaning.proofs.Silent.{silent_short, silent_counts, silent_offsets, silent_arities, silent_pairs}

module _ (file : List ℕ) (count : length (arities_in file) ≡ symbol_count_lem file) where
  -- a pair that may be listed, by the lists that are read and by the bytes
  listed_well : (k : ℕ) → SoundPair (arities_in file) (pair_at file (pair_start file k)) → ListedWell file k
  listed_well k s =
      let higher : higher_at file k < symbol_count_lem file = omega (arith, count, s.1) in
      let lower : lower_at file k < symbol_count_lem file = omega (arith, s.0) in
      record {
        lower_first = s.0;
        in_table = higher;
        equal_arities = inv (arity_in file (lower_at file k) lower) ∙ s.2 ∙ arity_in file (higher_at file k) higher;
        above_zero = s.3;
        at_most_top = s.4;
      }

  well_sound : (k : ℕ) → ListedWell file k → SoundPair (arities_in file) (pair_at file (pair_start file k))
  well_sound k w =
      let lower : lower_at file k < symbol_count_lem file = omega (arith, w.lower_first, w.in_table) in (
        w.lower_first,
        omega (arith, count, w.in_table),
        arity_in file (lower_at file k) lower ∙ w.equal_arities ∙ inv (arity_in file (higher_at file k) w.in_table),
        w.above_zero,
        w.at_most_top,
      )

-- ---- a file that is not refused is a table

module _ (file : List ℕ) (e : SoundFile file) where
  q : Passed file
  q = passed file e

  stands_before : (k : ℕ) → suc k < pair_count_lem file → StandsBefore file k (suc k)
  stands_before k l =
      let a = get_or (pairs_in file) k (pair 0 0 0) in
      let b = get_or (pairs_in file) (suc k) (pair 0 0 0) in
      subst (λ x. After x (pair_at file (pair_start file (suc k)))) (pair_in_lem file k (omega arith))
      (subst (After a) (pair_in_lem file (suc k) l) (rises_after a b (not-false (rises a b) (q.ordered (suc k) (omega (arith, length-pairs_in file))))))

  sound_at : (k : ℕ) → k < pair_count_lem file → SoundPair (arities_in file) (pair_at file (pair_start file k))
  sound_at k l =
      subst (SoundPair (arities_in file)) (pair_in_lem file k l)
      (all_get_d (SoundPair (arities_in file)) (pairs_in file) k (pair 0 0 0) (omega (arith, length-pairs_in file)) q.pairs)

  is_table_lem-is : TableFile file
  is_table_lem-is =
      record {
        whole_header = q.long;
        some_symbol = q.symbols.0;
        few_symbols = q.symbols.1;
        few_pairs_lem = q.few_pairs_lem;
        arities_follow = q.placed.of_arities;
        pairs_follow = q.placed.of_pairs;
        total_is = q.placed.of_total;
        length_is = inv q.placed.of_length;
        arities = λ a l. subst (λ n. n ≤ most_arguments) (arity_in file a l) (q.arities a l);
        pairs = λ k l. listed_well file (length-arities_in file q) k (sound_at k l);
        rising = stands_before;
      }

-- ---- a table is not refused

module _ (file : List ℕ) (t : TableFile file) where
  count : length (arities_in file) ≡ symbol_count_lem file
  count = length_arities file (omega (arith, t.length_is, t.total_is))

  sound_read : (k : ℕ) → k < length (pairs_in file) → SoundPair (arities_in file) (get_or (pairs_in file) k (pair 0 0 0))
  sound_read k l =
      let m : k < pair_count_lem file = omega (arith, length-pairs_in file) in
      rw (pair_in_lem file k m) (well_sound file count k (t.pairs k m))

  rising_read : (k : ℕ) → suc k < length (pairs_in file) → After (get_or (pairs_in file) k (pair 0 0 0)) (get_or (pairs_in file) (suc k) (pair 0 0 0))
  rising_read k l =
      let m : suc k < pair_count_lem file = omega (arith, length-pairs_in file) in
      rw (pair_in_lem file k (omega arith), pair_in_lem file (suc k) m) (t.rising k m)

  not_refused : SoundFile file
  unfolding table_rows
  not_refused =
      silent_first (table_rows file) (
        silent_short file t.whole_header,
        (
          silent_counts (symbol_count_lem file) (pair_count_lem file) t.some_symbol t.few_symbols t.few_pairs_lem,
          (
            silent_offsets file (record { of_arities = t.arities_follow; of_pairs = t.pairs_follow; of_total = t.total_is; of_length = inv t.length_is }),
            (
              silent_arities (arities_in file) (λ a l. let m : a < symbol_count_lem file = omega (arith, count) in rw (arity_in file a m) (t.arities a m)),
              (silent_pairs (arities_in file) (pairs_in file) sound_read rising_read, tt),
            ),
          ),
        ),
      )

-- THEOREM: which files are tables
pub recognised : Recognised
recognised file = (is_table_lem-is file, not_refused file)
