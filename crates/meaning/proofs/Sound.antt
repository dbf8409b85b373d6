-- A table that is not refused is lawful and has few symbols: no row holds, so what each row tests is as it has to be.
use mathlib.Core.Path.{◌≡◌, refl, sym as inv, ap, ◌∙◌}
use mathlib.Core.List.{List, [], ◌∷◌}
use mathlib.Core.Bool.{Bool, true, false, ◌||◌, not}
use mathlib.Core.Option.{none, some-ne-none}
use Prim.Native.Nat.{ℕ, zero, suc, ◌+◌, ◌≤◌, ◌<◌}
use native.Mathlib.Omega.{arith}
use lib.Dec.{eqb, ltb}
use lib.ListN.{length, get_or, drop, length-take, length-drop}
use borrow.Author.Tests.{ltb-true, ltb-false, eqb-true, not-false}
use Rattle.theory.specs.Least.{All}
use Rattle.theory.specs.Pairs.{Pair, pair, listed_top, SoundPair}
use Rattle.theory.proofs.Pairs.{lawful, only_itself}
use Rattle.theory.proofs.Lemmas.{least-none, both_false}
use Rattle.meaning.specs.Limits.{most_symbols, most_pairs, most_arguments}
use Rattle.meaning.specs.File.{symbol_count_lem, pair_count_lem, arities_offset, pairs_offset, total_field, pairs_at_lem, total, arities_in, pairs_from, pairs_in, table_in}
use Rattle.meaning.specs.Refusals.{at0, outside, unsound, unordered, bad_pair_lem, row1_short, row1_offsets, row2, row3, row4, table_rows, SoundFile}
use Rattle.meaning.specs.Tables.{SoundTable}
use Rattle.meaning.proofs.First.{Silent, all_silent}

pub at0-none : (b : Bool) → at0 b ≡ none → b ≡ false
at0-none true e = absurd (some-ne-none 0 e)
at0-none false e = refl

-- n is inside low to high
pub inside_of : (low high n : ℕ) → outside low high n ≡ false → (low ≤ n) × (n ≤ high)
inside_of low high n e = let q = both_false (ltb n low) (ltb high n) e in (ltb-false n low q.0, ltb-false high n q.1)

pub all_of : {A : Type 0} (P : A → Type 0) (xs : List A) (d : A) → ((k : ℕ) → k < length xs → P (get_or xs k d)) → All P xs
all_of P [] d h = tt
all_of P (x ∷ xs) d h = (h 0 (omega arith), all_of P xs d (λ k l. h (suc k) (omega arith)))

pub sound_pair : (arities : List ℕ) (p : Pair) → unsound arities p ≡ false → SoundPair arities p
sound_pair arities (pair l h d) e =
    let a = both_false _ (outside 1 listed_top d) e in
    let b = both_false _ (not (eqb (get_or arities l 0) (get_or arities h 0))) a.0 in
    let c = both_false (not (ltb l h)) (not (ltb h (length arities))) b.0 in
    let i = inside_of 1 listed_top d a.1 in
    (ltb-true l h (not-false _ c.0), ltb-true h (length arities) (not-false _ c.1), eqb-true _ _ (not-false _ b.1), i.0, i.1)

pub sound_pairs_lem : (arities : List ℕ) (pairs : List Pair) → Silent (row4 arities pairs) → All (SoundPair arities) pairs
unfolding row4
sound_pairs_lem arities pairs e =
    all_of (SoundPair arities) pairs (pair 0 0 0)
    (λ k l. sound_pair arities (get_or pairs k (pair 0 0 0)) (both_false _ (unordered pairs k) (least-none (length pairs) (bad_pair_lem arities pairs) e k l)).0)

ordered_pairs : (arities : List ℕ) (pairs : List Pair) → Silent (row4 arities pairs) → (k : ℕ) → k < length pairs → unordered pairs k ≡ false
unfolding row4
ordered_pairs arities pairs e k l = (both_false (unsound arities (get_or pairs k (pair 0 0 0))) _ (least-none (length pairs) (bad_pair_lem arities pairs) e k l)).1

-- the offsets and the total are as they have to be
pub record Offsets (file : List ℕ) : Type 0 where
  pub of_arities : arities_offset file ≡ 10
  pub of_pairs : pairs_offset file ≡ pairs_at_lem (symbol_count_lem file)
  pub of_total : total_field file ≡ total (symbol_count_lem file) (pair_count_lem file)
  pub of_length : total_field file ≡ length file

offsets : (file : List ℕ) → Silent (row1_offsets file) → Offsets file
unfolding row1_offsets
offsets file e =
    let a = not (eqb (arities_offset file) 10) in
    let b = not (eqb (pairs_offset file) (pairs_at_lem (symbol_count_lem file))) in
    let c = not (eqb (total_field file) (total (symbol_count_lem file) (pair_count_lem file))) in
    let d = not (eqb (total_field file) (length file)) in
    let t = both_false (a || b || c) d (at0-none (a || b || c || d) e) in
    let u = both_false (a || b) c t.0 in
    let v = both_false a b u.0 in
    record {
      of_arities = eqb-true (arities_offset file) 10 (not-false _ v.0);
      of_pairs = eqb-true (pairs_offset file) (pairs_at_lem (symbol_count_lem file)) (not-false _ v.1);
      of_total = eqb-true (total_field file) (total (symbol_count_lem file) (pair_count_lem file)) (not-false _ u.1);
      of_length = eqb-true (total_field file) (length file) (not-false _ t.1);
    }

-- counts in their ranges
pub counts_inside : (s p : ℕ) → Silent (row2 s p) → (1 ≤ s) × (s ≤ most_symbols) × (p ≤ most_pairs)
unfolding row2
counts_inside s p e =
    let few = outside 1 most_symbols s in
    let few_pairs = outside 0 most_pairs p in
    let q = both_false few few_pairs (at0-none (few || few_pairs) e) in
    ((inside_of 1 most_symbols s q.0).0, (inside_of 1 most_symbols s q.0).1, (inside_of 0 most_pairs p q.1).1)

-- arities that are not too high
pub low_arities : (arities : List ℕ) → Silent (row3 arities) → (a : ℕ) → a < length arities → get_or arities a 0 ≤ most_arguments
unfolding row3
low_arities arities e a l = ltb-false most_arguments (get_or arities a 0) (least-none (length arities) (λ a. ltb most_arguments (get_or arities a 0)) e a l)

-- the lengths of what was read
pub length-pairs_from : (file : List ℕ) (n i : ℕ) → length (pairs_from file i n) ≡ n
length-pairs_from file zero i = refl
length-pairs_from file (suc n) i = ap suc (length-pairs_from file n (i + 6))

pub length-pairs_in : (file : List ℕ) → length (pairs_in file) ≡ pair_count_lem file
unfolding pairs_in
length-pairs_in file = length-pairs_from file (pair_count_lem file) (pairs_at_lem (symbol_count_lem file))

pub length_arities : (file : List ℕ) → pairs_at_lem (symbol_count_lem file) ≤ length file → length (arities_in file) ≡ symbol_count_lem file
unfolding arities_in
length_arities file l = omega (arith, length-take (symbol_count_lem file) (drop 10 file), length-drop 10 file)

-- what a table that is not refused has passed
pub record Passed (file : List ℕ) : Type 0 where
  pub long : 10 ≤ length file
  pub symbols : (1 ≤ symbol_count_lem file) × (symbol_count_lem file ≤ most_symbols)
  pub few_pairs_lem : pair_count_lem file ≤ most_pairs
  pub placed : Offsets file
  pub length_is : length file ≡ total (symbol_count_lem file) (pair_count_lem file)
  pub arities : (a : ℕ) → a < symbol_count_lem file → get_or (arities_in file) a 0 ≤ most_arguments
  pub pairs : All (SoundPair (arities_in file)) (pairs_in file)
  pub ordered : (k : ℕ) → k < length (pairs_in file) → unordered (pairs_in file) k ≡ false

pub length-arities_in : (file : List ℕ) → Passed file → length (arities_in file) ≡ symbol_count_lem file
length-arities_in file q = length_arities file (omega (arith, q.length_is))

pub passed : (file : List ℕ) → SoundFile file → Passed file
unfolding table_rows row1_short
passed file e =
    let q = all_silent (table_rows file) e in
    let s = counts_inside (symbol_count_lem file) (pair_count_lem file) q.1.0 in
    let t = offsets file q.1.1.0 in
    let n = inv t.of_length ∙ t.of_total in
    record {
      long = ltb-false (length file) 10 (at0-none (ltb (length file) 10) q.0);
      symbols = (s.0, s.1);
      few_pairs_lem = s.2;
      placed = t;
      length_is = n;
      arities = λ a l. low_arities (arities_in file) q.1.1.1.0 a (omega (arith, length_arities file (omega arith)));
      pairs = sound_pairs_lem (arities_in file) (pairs_in file) q.1.1.1.1.0;
      ordered = ordered_pairs (arities_in file) (pairs_in file) q.1.1.1.1.0;
    }

-- THEOREM: a table that is not refused is lawful
pub sound : (table : List ℕ) → SoundFile table → SoundTable table
unfolding table_in arities_in
sound table e =
    let q = passed table e in
    record {
      lawful = lawful (arities_in table) (pairs_in table) q.pairs;
      only_itself = only_itself (arities_in table) (pairs_in table) q.pairs;
      small = omega (arith, length-take (symbol_count_lem table) (drop 10 table), q.symbols);
    }
