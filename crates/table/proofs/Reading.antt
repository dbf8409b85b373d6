-- What a sound table file has passed says how long it is, so that all that is read of it is there; and the size and the arities of the
-- table that it holds are what stands at its bytes.
use mathlib.Core.Path.{◌≡◌}
use mathlib.Core.List.{List}
use mathlib.Core.Bool.{Bool}
use Prim.Native.Nat.{ℕ, ◌+◌, ◌≤◌, ◌<◌}
use native.Mathlib.Omega.{arith}
use borrow.Author.Tests.{ltb-false}
use lib.Dec.{ltb}
use lib.ListN.{length, get_or}
use Rattle.theory.specs.Pairs.{pair, SoundPair}
use Rattle.theory.proofs.Lemmas.{least-none, all_get_d}
use Rattle.meaning.specs.Limits.{most_arguments}
use Rattle.meaning.specs.File.{symbol_count_lem, pair_count_lem, arities_in, pairs_in, table_in}
use Rattle.meaning.specs.Refusals.{SoundFile, row3, table_rows}
use Rattle.meaning.specs.Tables.{arity_byte, pair_start}
use Rattle.meaning.proofs.First.{all_silent}
use Rattle.meaning.proofs.Sound.{passed, length-pairs_in, length-arities_in}
use Rattle.meaning.proofs.Bytes.{arity_in}

module _ (file : List ℕ) (sound : SoundFile file) where
  -- LAW: the table has as many symbols as the file says
  pub size_is : (table_in file).size ≡ symbol_count_lem file
  unfolding table_in
  size_is = length-arities_in file (passed file sound)

  -- LAW: a symbol's arity stands in the file, is what stands there, and is not too high
  pub arity_inside : (a : ℕ) → a < (table_in file).size → 10 + a < length file
  arity_inside a l = omega (arith, size_is, (passed file sound).length_is)

  pub arity_is : (a : ℕ) → a < (table_in file).size → (table_in file).arity a ≡ arity_byte file a
  unfolding table_in
  arity_is a l = arity_in file a (omega (arith, size_is))

  pub arity_most : (a : ℕ) → a < (table_in file).size → (table_in file).arity a ≤ most_arguments
  unfolding table_in table_rows row3
  arity_most a l =
      let high : ℕ → Bool = λ a. ltb most_arguments (get_or (arities_in file) a 0) in
      ltb-false most_arguments (get_or (arities_in file) a 0) (least-none (length (arities_in file)) high (all_silent (table_rows file) sound).1.1.1.0 a l)

  -- LAW: a pair's six bytes stand in the file
  pub pair_inside : (k : ℕ) → k < pair_count_lem file → pair_start file k + 6 ≤ length file
  pair_inside k l = omega (arith, (passed file sound).length_is)

  -- LAW: each pair of the file may be listed
  pub sound_at : (k : ℕ) → k < pair_count_lem file → SoundPair (arities_in file) (get_or (pairs_in file) k (pair 0 0 0))
  sound_at k l = all_get_d (SoundPair (arities_in file)) (pairs_in file) k (pair 0 0 0) (omega (arith, length-pairs_in file)) (passed file sound).pairs
