-- The two walks over the pairs of symbol a. Its row, the pairs whose lower symbol it is, stands in one piece, since pairs rise. Its chain goes from the last
-- pair whose higher symbol it is to the one before, so that behind each pair on the chain, and behind the last, none is left out.
use mathlib.Core.Path.{◌≡◌, refl}
use mathlib.Core.Logic.{◌⊎◌, inl, inr, ⊎_elim}
use mathlib.Core.List.{List}
use Prim.Native.Nat.{ℕ, ◌+◌, ◌-◌, ◌≤◌, ◌<◌}
use native.Mathlib.Decide.{dec_lt}
use native.Mathlib.Omega.{arith}
use borrow.Author.Tests.{eqb-true, eqb-false}
use lib.Dec.{eqb}
use lib.ListN.{get_or, set}
use Rattle.meaning.specs.File.{pair_count_lem, table_in}
use Rattle.meaning.specs.Tables.{lower_at, higher_at, degree_at}
use Rattle.meaning.specs.Refusals.{SoundFile}
use Rattle.meaning.proofs.First.{Last, last_below_lem}
use Rattle.degrees.proofs.Listed.{pair_symbols}
use Rattle.degrees.proofs.Narrowing.{none_before}
use Rattle.wide.specs.Index.{last_with}
use Rattle.wide.specs.Laid.{InRow, RowFrom, Laid}
use Rattle.wide.proofs.Laying.{laid_as, laid_more, laid_all}

module _ (file : List ℕ) (a : ℕ) where
  -- a's row begins from pair `low` to pair `high`, if it has any
  pub record StartsBetween (low high : ℕ) : Type 0 where
    pub within : high ≤ pair_count_lem file
    pub none_before : (j : ℕ) → j < pair_count_lem file → InRow file a j → low ≤ j
    pub none_skipped : (j : ℕ) → high ≤ j → j < pair_count_lem file → InRow file a j → InRow file a high

  -- the walk stands before pair k of the file: the pairs of a's row before it are laid out
  pub record RowTo (k : ℕ) (row : List ℕ) : Type 0 where
    pub laid : Laid file a (λ j. InRow file a j × (j < k)) row
    pub none_skipped : (j : ℕ) → k ≤ j → j < pair_count_lem file → InRow file a j → InRow file a k

  -- the walk stands at a pair of the chain, 1 and its number being `next`, or behind the chain: the row and all later pairs of the chain are laid out
  pub record ChainFrom (next : ℕ) (row : List ℕ) : Type 0 where
    pub within : next ≤ pair_count_lem file
    pub is : 0 < next → higher_at file (next - 1) ≡ a
    pub laid : Laid file a (λ k. InRow file a k ⊎ ((higher_at file k ≡ a) × (next ≤ k))) row

module _ (file : List ℕ) (ok : SoundFile file) (a : ℕ) where
  -- no lower symbol is below that of an earlier pair
  rising : (i j : ℕ) → i ≤ j → j < pair_count_lem file → lower_at file i ≤ lower_at file j
  rising i j = none_before file ok i (lower_at file i) i refl (omega arith) j

  -- ---- where the row begins

  module _ (low high : ℕ) (between : StartsBetween file a low high) where
    -- LAW: at the lowest, as the pair there is not of an earlier row
    pub starts_here : low < high → a ≤ lower_at file low → RowFrom file a low
    starts_here l reached =
        record { none_before = between.none_before; none_skipped = λ j u m own. omega (arith, own, rising low j u m) }

    module _ (middle : ℕ) (l : middle < high) where
      -- LAW: behind a pair of an earlier row, or not behind one of another
      pub starts_behind : lower_at file middle < a → StartsBetween file a (middle + 1) high
      starts_behind below =
          record { within = between.within; none_before = λ j m own. past j m own (dec_lt middle j); none_skipped = between.none_skipped }
        where
          past : (j : ℕ) → j < pair_count_lem file → InRow file a j → Dec (middle < j) → middle + 1 ≤ j
          past j m own (yes v) = omega arith
          past j m own (no v) = absurd (omega (arith, own, rising j middle (omega arith) (omega (arith, between.within))))

      pub starts_not_behind : a ≤ lower_at file middle → StartsBetween file a low middle
      starts_not_behind reached =
          record {
            within = omega (arith, between.within);
            none_before = between.none_before;
            none_skipped = λ j u m own. omega (arith, own, rising middle j u m);
          }

  -- ---- along the row

  module _ (k : ℕ) (row : List ℕ) (to : RowTo file a k row) where
    -- LAW: from a pair of the row to the next pair
    pub row_next : k < pair_count_lem file → lower_at file k ≡ a → RowTo file a (k + 1) (set row (higher_at file k) (degree_at file k))
    row_next l own =
        record {
          laid = laid_more file ok a to.laid k (higher_at file k) l (pair_symbols file ok k l).1 (inl (own, refl)) (λ j m n then. (then.0, omega (arith, then.1)));
          none_skipped = λ j m u later. omega (arith, own, rising k (k + 1) (omega arith) (omega arith), rising (k + 1) j m u);
        }

    -- LAW: behind the row, as pair k is not one of it, or there is none
    pub row_end : (pair_count_lem file ≤ k) ⊎ (lower_at file k ≡ a → ⊥) → Laid file a (InRow file a) row
    row_end past = laid_as file ok a to.laid (λ j l own. (own, before j l own (dec_lt j k)))
      where
        before : (j : ℕ) → j < pair_count_lem file → InRow file a j → Dec (j < k) → j < k
        before j l own (yes v) = v
        before j l own (no v) = absurd (⊎_elim (λ e. omega arith) (λ n. n (to.none_skipped j (omega arith) l own)) past)

  -- ---- along the chain

  -- LAW: at the head
  pub chain_head : (next : ℕ) (row : List ℕ) → next ≡ last_with file a (pair_count_lem file) → Laid file a (InRow file a) row → ChainFrom file a next row
  chain_head next row e laid =
      record {
        within = last.within;
        is = λ l. eqb-true _ _ (last.is l);
        laid = laid_as file ok a laid (λ k l. ⊎_elim (λ own. own) (λ later. absurd (eqb-false _ _ (last.none k later.1 l) later.0)));
      }
    where
      last : Last (λ k. eqb (higher_at file k) a) (pair_count_lem file) next
      last = rw e (last_below_lem (λ k. eqb (higher_at file k) a) (pair_count_lem file))

  -- LAW: from a pair to the one before it
  pub chain_next : (next before : ℕ) (row : List ℕ) → 0 < next → before ≡ last_with file (higher_at file (next - 1)) (next - 1) → ChainFrom file a next row
      → ChainFrom file a before (set row (lower_at file (next - 1)) (degree_at file (next - 1)))
  chain_next next before row some e at =
      record {
        within = omega (arith, last.within, at.within);
        is = λ l. eqb-true _ _ (last.is l);
        laid = laid_more file ok a at.laid k (lower_at file k) l (pair_symbols file ok k l).0 (inr (at.is some, refl)) (λ j m n. ⊎_elim inl (λ later. inr (later.0, behind j n later (dec_lt j k))));
      }
    where
      k : ℕ
      k = next - 1

      l : k < pair_count_lem file
      l = omega (arith, at.within)

      last : Last (λ j. eqb (higher_at file j) a) k before
      last = rw (e, at.is some) (last_below_lem (λ j. eqb (higher_at file j) a) k)

      behind : (j : ℕ) → (j ≡ k → ⊥) → (higher_at file j ≡ a) × (before ≤ j) → Dec (j < k) → next ≤ j
      behind j n later (yes v) = absurd (eqb-false _ _ (last.none j later.1 v) later.0)
      behind j n later (no v) = omega arith

  -- LAW: behind its last pair all is laid out
  pub chain_end : (row : List ℕ) → a < (table_in file).size → ChainFrom file a 0 row → (s : ℕ) → s < (table_in file).size → (s ≡ a → ⊥) → get_or row s 0 ≡ (table_in file).deg s a
  chain_end row m at = laid_all file ok a row m (laid_as file ok a at.laid (λ k l. ⊎_elim inl (λ later. inr (later, omega arith))))
