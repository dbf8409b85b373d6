-- The degree of two symbols by their key. In a sound file every pair has its lower symbol first, so that two symbols in that order are a
-- pair's exactly if they have its key; and the keys rise, since pairs do.
use mathlib.Core.Path.{◌≡◌, sym as inv, ap, ap₂, ◌∙◌}
use mathlib.Core.Logic.{⊎_elim}
use mathlib.Core.List.{List}
use mathlib.Core.Bool.{false}
use Prim.Native.Nat.{ℕ, suc, ◌<◌, min, max}
use native.Mathlib.Decide.{dec_lt, ℕ_discrete}
use native.Mathlib.Omega.{arith}
use borrow.Author.Tests.{eq-eqb, ne_eqb}
use lib.ListN.{get_or}
use Rattle.theory.specs.Pairs.{pair, is_pair}
use Rattle.meaning.specs.File.{pair_count_lem, pairs_in, table_in}
use Rattle.meaning.specs.Refusals.{SoundFile}
use Rattle.meaning.specs.Tables.{lower_at, higher_at, degree_at, TableFile}
use Rattle.meaning.proofs.Sound.{sound}
use Rattle.meaning.proofs.Degrees.{listed_sound, degree_listed, degree_others}
use Rattle.meaning.proofs.Bytes.{pair_in_lem}
use Rattle.meaning.proofs.Recognised.{recognised}
use Rattle.table.specs.Keys.{key_of, pair_key}
use Rattle.table.proofs.Reading.{size_is}
use Rattle.degrees.specs.Sought.{key_at}
use Rattle.degrees.proofs.Halving.{Rising, steps_rise}

-- two symbols, the lower first, are a pair's only if they have its key
not_pair : (l h a b : ℕ) → l < h → a < b → (key_of l h ≡ key_of a b → ⊥) → is_pair l h a b ≡ false
not_pair l h a b p q n = go (ℕ_discrete a l) (ℕ_discrete b h) (ℕ_discrete a h)
  where
    go : Dec (a ≡ l) → Dec (b ≡ h) → Dec (a ≡ h) → is_pair l h a b ≡ false
    go (yes d) (yes e) f = absurd (n (omega arith))
    go (yes d) (no e) f = rw (eq-eqb a l d, ne_eqb b h e, ne_eqb a h (λ z. omega arith))
    go (no d) e (yes f) = rw (ne_eqb a l d, eq-eqb a h f, ne_eqb b l (λ z. omega arith))
    go (no d) e (no f) = rw (ne_eqb a l d, ne_eqb a h f)

module _ (file : List ℕ) (ok : SoundFile file) where
  table : TableFile file
  table = (recognised file).0 ok

  -- LAW: both symbols of a pair are symbols of the table
  pub pair_symbols : (k : ℕ) → k < pair_count_lem file → (lower_at file k < (table_in file).size) × (higher_at file k < (table_in file).size)
  pair_symbols k l = let well = table.pairs k l in (omega (arith, well.lower_first, well.in_table, size_is file ok), omega (arith, well.in_table, size_is file ok))

  -- .. numbers of 16 bits
  small : (k : ℕ) → k < pair_count_lem file → higher_at file k < 65536
  small k l = omega (arith, (table.pairs k l).in_table, table.few_symbols)

  -- LAW: the keys of pairs rise
  pub keys_rise : Rising (key_at file) (pair_count_lem file)
  keys_rise = steps_rise (key_at file) (pair_count_lem file) step
    where
      step : (k : ℕ) → suc k < pair_count_lem file → key_at file k < key_at file (suc k)
      step k l = let s = small k (omega arith) in ⊎_elim (λ lower. omega arith) (λ same. omega (arith, same.0, same.1)) (table.rising k l)

  module _ (a b : ℕ) where
    -- LAW: a symbol's degree with itself
    pub degree_itself : a < (table_in file).size → a ≡ b → 1000 ≡ (table_in file).deg a b
    degree_itself l e = inv (ap ((table_in file).deg a) (inv e) ∙ (sound file ok).lawful.itself a l)

    -- LAW: two symbols have the degree that the lower one has with the higher
    pub degree_ordered : (lower higher : ℕ) → lower ≡ min a b → higher ≡ max a b → (table_in file).deg lower higher ≡ (table_in file).deg a b
    degree_ordered lower higher e f = go (dec_lt a b)
      where
        go : Dec (a < b) → (table_in file).deg lower higher ≡ (table_in file).deg a b
        go (yes l) = ap₂ (table_in file).deg (omega arith) (omega arith)
        go (no m) = ap₂ (table_in file).deg (omega arith) (omega arith) ∙ (sound file ok).lawful.either b a

  module _ (lower higher : ℕ) where
    -- LAW: two symbols with the key of pair k are its symbols
    pub same_symbols : higher < 65536 → (k : ℕ) → k < pair_count_lem file → key_at file k ≡ key_of lower higher → (lower ≡ lower_at file k) × (higher ≡ higher_at file k)
    same_symbols fits k l e = let s = small k l in (omega arith, omega arith)

    -- LAW: .. and have its degree
    pub degree_found : higher < 65536 → (k : ℕ) → k < pair_count_lem file → key_at file k ≡ key_of lower higher → (table_in file).deg lower higher ≡ degree_at file k
    degree_found fits k l e =
        let same = same_symbols fits k l e in
        ap₂ (table_in file).deg same.0 same.1 ∙ degree_listed file ok k (lower_at file k) (higher_at file k) (degree_at file k) l (pair_in_lem file k l)

    -- LAW: two symbols, the lower first, with the key of no pair have degree 0
    pub degree_missed : lower < higher → ((k : ℕ) → k < pair_count_lem file → key_at file k ≡ key_of lower higher → ⊥) → (table_in file).deg lower higher ≡ 0
    degree_missed o no_key = degree_others file ok lower higher (λ e. omega arith) other
      where
        other : (k l h d : ℕ) → k < pair_count_lem file → get_or (pairs_in file) k (pair 0 0 0) ≡ pair l h d → is_pair l h lower higher ≡ false
        other k l h d m e =
            not_pair l h lower higher (listed_sound file ok k l h d m e).0 o
            (λ same. no_key k m (ap pair_key (inv (pair_in_lem file k m) ∙ e) ∙ same))
