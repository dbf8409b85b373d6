-- A pair with a degree of 1000 is refused where it stands: row 4 gives the first pair that may not be listed, which is that one or a pair before it.
use mathlib.Core.Path.{◌≡◌, refl, ap, subst}
use mathlib.Core.List.{List, [], ◌∷◌, ◌++◌}
use mathlib.Core.Bool.{false}
use mathlib.Core.Option.{Option, none, some as just}
use Prim.Native.Nat.{ℕ, ◌≤◌, ◌<◌}
use native.Mathlib.Decide.{dec_lt}
use native.Mathlib.Omega.{arith}
use lib.ListN.{length, get_or}
use Rattle.theory.specs.Least.{All, least_below}
use Rattle.theory.specs.Pairs.{Pair, pair, SoundPair}
use Rattle.theory.proofs.Lemmas.{both_false, least-none, LeastAt, least_just}
use Rattle.meaning.specs.File.{symbol_count_lem, pair_count_lem, total, arities_in, pairs_in}
use Rattle.meaning.specs.Refusals.{Row, row, row_number, first, unordered, bad_pair_lem, row1_short, row1_offsets, row2, row3, row4, row8-output, table_rows}
use Rattle.meaning.specs.Calls.{refused, unless, aye, is_table_lem, writer_rows, written}
use Rattle.meaning.specs.Tables.{degree_at, RefusedThere, TopNotListed, TopNotWritten}
use Rattle.meaning.proofs.Bytes.{pair_in_lem}
use Rattle.meaning.proofs.Sound.{sound_pair, length-pairs_in}

-- a call whose rows before 4 have lower numbers, and whose row 4 holds at i: it is refused by 4 at k, unless a row before does or i is before k
there : {A : Type 0} (a : A) (before after : List Row) → All (λ r. row_number r ≤ 3) before → (i k : ℕ) → i ≤ k
    → RefusedThere k (unless (first (before ++ (row 4 (just i) ∷ after))) a)
there a [] after low i k l h = ap (refused 4) (omega (arith, (h 4 i refl).1))
there a (row n none ∷ before) after low i k l h = there a before after low.1 i k l h
there a (row n (just j) ∷ before) after low i k l h = absurd (omega (arith, low.0, (h n j refl).0))

module _ (arities : List ℕ) (pairs : List Pair) (k l h d : ℕ) (inside : k < length pairs) (is : get_or pairs k (pair 0 0 0) ≡ pair l h d) (top : 1000 ≤ d) where
  -- the pair does not pass
  passes : bad_pair_lem arities pairs k ≡ false → ⊥
  passes e =
      let s = sound_pair arities (get_or pairs k (pair 0 0 0)) (both_false _ (unordered pairs k) e).0 in
      omega (arith, (subst (SoundPair arities) is s).4)

  -- so row 4 holds, there or before
  holds : (i : ℕ) × (i ≤ k) × (row4 arities pairs ≡ row 4 (just i))
  unfolding row4
  holds = go (least_below (length pairs) (bad_pair_lem arities pairs)) refl
    where
      not_behind : (i : ℕ) → LeastAt (bad_pair_lem arities pairs) i → Dec (k < i) → i ≤ k
      not_behind i q (yes m) = absurd (passes (q.least k m))
      not_behind i q (no m) = omega arith

      go : (o : Option ℕ) → least_below (length pairs) (bad_pair_lem arities pairs) ≡ o → (i : ℕ) × (i ≤ k) × (row 4 o ≡ row 4 (just i))
      go none e = absurd (passes (least-none (length pairs) (bad_pair_lem arities pairs) e k inside))
      go (just i) e = (i, not_behind i (least_just (length pairs) (bad_pair_lem arities pairs) i e) (dec_lt k i), refl)

-- THEOREM: in a file that is read
pub top_not_listed : (file : List ℕ) → TopNotListed file (is_table_lem file)
unfolding is_table_lem table_rows row1_short row1_offsets row2 row3
top_not_listed file k l top =
    let q = holds (arities_in file) (pairs_in file) k _ _ (degree_at file k) (omega (arith, length-pairs_in file)) (pair_in_lem file k l) top in
    rw q.2
    (there aye (row1_short file ∷ row2 (symbol_count_lem file) (pair_count_lem file) ∷ row1_offsets file ∷ row3 (arities_in file) ∷ []) []
    (omega arith, (omega arith, (omega arith, (omega arith, tt)))) q.0 k q.1)

-- THEOREM: in pairs that are to be written
pub top_not_written : (arities : List ℕ) (pairs : List Pair) (output : List ℕ) → TopNotWritten pairs (written arities pairs output)
unfolding written writer_rows row2 row3
top_not_written arities pairs output k l h d inside is top =
    let q = holds arities pairs k l h d inside is top in
    rw q.2
    (there _ (row2 (length arities) (length pairs) ∷ row3 arities ∷ []) (row8-output (total (length arities) (length pairs)) output ∷ [])
    (omega arith, (omega arith, tt)) q.0 k q.1)
