-- A symbol's range may be narrowed to where its row stands. Pairs rise, so a row stands in one piece: from the pair at which its symbol comes up to the
-- first one of another.
use mathlib.Core.Path.{◌≡◌, refl, ap, ◌∙◌}
use mathlib.Core.List.{List}
use Prim.Native.Nat.{ℕ, ◌+◌, ◌-◌, ◌*◌, ◌≤◌, ◌<◌}
use native.Mathlib.Decide.{dec_lt, ℕ_discrete}
use native.Mathlib.Omega.{arith}
use lib.ListN.{length, get_or, set, length-set}
use lib.Seq.{get_or-set_same, get_or-set_other}
use Rattle.meaning.specs.File.{pair_count_lem, table_in}
use Rattle.meaning.specs.Tables.{lower_at}
use Rattle.meaning.specs.Refusals.{SoundFile}
use Rattle.meaning.specs.Calls.{zeros}
use Rattle.meaning.proofs.Bits.{get_or_zeros}
use Rattle.meaning.proofs.Recognised.{recognised}
use Rattle.table.specs.Keys.{key_of}
use Rattle.table.proofs.Reading.{size_is}
use Rattle.degrees.specs.Sought.{key_at, Between}
use Rattle.degrees.specs.Rows.{Rows, RowsLaid, NoneBefore, PassedRow}
use Rattle.degrees.proofs.Halving.{not_falling}
use Rattle.degrees.proofs.Listed.{pair_symbols, keys_rise, same_symbols}

-- LAW: a list of zeros leaves every row anywhere
pub rows_anywhere : (file rows : List ℕ) → 2 * (table_in file).size ≤ length rows → rows ≡ zeros (length rows) → Rows file rows
rows_anywhere file rows room e =
    record { room = room; from = λ k l. omega (arith, none (2 * lower_at file k)); behind = λ k l. omega (arith, none (2 * lower_at file k + 1)); within = λ s l. omega (arith, none (2 * s + 1)) }
  where
    none : (i : ℕ) → get_or rows i 0 ≡ 0
    none i = ap (λ (l : List ℕ). get_or l i 0) e ∙ get_or_zeros (length rows) i

-- LAW: rows are laid where nothing is done, and where they are laid once more
pub laid_before : {file rows : List ℕ} → Rows file rows → RowsLaid file rows rows
laid_before r = record { rows = r; rest = λ i l. refl }

pub laid_again : {file one two three : List ℕ} → RowsLaid file one two → RowsLaid file two three → RowsLaid file one three
laid_again a b = record { rows = b.rows; rest = λ i l. b.rest i l ∙ a.rest i l }

-- what holds of a number that was stored, and of the one that stands elsewhere, holds of what stands there then
stored : (P : ℕ → Type 0) (l : List ℕ) (i v j : ℕ) → i < length l → (j ≡ i → P v) → P (get_or l j 0) → P (get_or (set l i v) j 0)
stored P l i v j h new old = go (ℕ_discrete j i)
  where
    go : Dec (j ≡ i) → P (get_or (set l i v) j 0)
    go (yes e) = rw (e, get_or-set_same l i v 0 h) (new e)
    go (no n) = rw (get_or-set_other l i j v 0 n) old

-- No pair before pair k is of the row of one from k on.
abbrev pub Parted : List ℕ → ℕ → Type 0
Parted file k = (i j : ℕ) → i < k → k ≤ j → j < pair_count_lem file → lower_at file i < lower_at file j

-- All pairs of the row of symbol `row` stand from pair `first` to below pair `end`.
pub record RowStands (file : List ℕ) (row first end : ℕ) : Type 0 where
  pub symbol : row < (table_in file).size
  pub within : end ≤ pair_count_lem file
  pub inside : (j : ℕ) → j < pair_count_lem file → lower_at file j ≡ row → (first ≤ j) × (j < end)

-- LAW: a symbol's range may be narrowed to where its row stands
pub narrowed : (file rows : List ℕ) (row first end behind : ℕ) → Rows file rows → RowStands file row first end → behind ≡ pair_count_lem file - end
    → RowsLaid file rows (set (set rows (2 * row) first) (2 * row + 1) behind)
narrowed file rows row first end behind laid stands is =
    record { rows = right; rest = λ i l. elsewhere i (omega (arith, stands.symbol)) }
  where
    begun : List ℕ
    begun = set rows (2 * row) first

    elsewhere : (i : ℕ) → 2 * row + 1 < i → get_or (set begun (2 * row + 1) behind) i 0 ≡ get_or rows i 0
    elsewhere i l = get_or-set_other begun (2 * row + 1) i behind 0 (λ e. omega arith) ∙ get_or-set_other rows (2 * row) i first 0 (λ e. omega arith)

    space : 2 * row + 1 < length begun
    space = simp length-set (omega (arith, stands.symbol, laid.room))

    -- the first store leaves what stands behind a row
    odd : (s : ℕ) → get_or begun (2 * s + 1) 0 ≡ get_or rows (2 * s + 1) 0
    odd s = get_or-set_other rows (2 * row) (2 * s + 1) first 0 (λ e. omega arith)

    from : (j : ℕ) → j < pair_count_lem file → get_or begun (2 * lower_at file j) 0 ≤ j
    from j m = stored (λ x. x ≤ j) rows (2 * row) first (2 * lower_at file j) (omega (arith, stands.symbol, laid.room)) (λ e. (stands.inside j m (omega arith)).0) (laid.from j m)

    ended : (j : ℕ) → j < pair_count_lem file → 2 * lower_at file j + 1 ≡ 2 * row + 1 → j + behind < pair_count_lem file
    ended j m e = omega (arith, (stands.inside j m (omega arith)).1, stands.within)

    right : Rows file (set begun (2 * row + 1) behind)
    right =
        record {
          room = simp length-set laid.room;
          from = λ j m. rw (get_or-set_other begun (2 * row + 1) (2 * lower_at file j) behind 0 (λ e. omega arith)) (from j m);
          behind = λ j m. stored (λ x. j + x < pair_count_lem file) begun (2 * row + 1) behind (2 * lower_at file j + 1) space (ended j m) (rw (odd (lower_at file j)) (laid.behind j m));
          within = λ s m. stored (λ x. x ≤ pair_count_lem file) begun (2 * row + 1) behind (2 * s + 1) space (λ e. omega arith) (rw (odd s) (laid.within s m));
        }

module _ (file : List ℕ) (ok : SoundFile file) where
  abbrev n : ℕ
  n = pair_count_lem file

  -- no lower symbol is below that of an earlier pair
  lowers : (i j : ℕ) → i ≤ j → j < n → lower_at file i ≤ lower_at file j
  lowers i j l m =
      let above = not_falling (key_at file) n (keys_rise file ok) i j l m in
      let few = ((recognised file).0 ok).few_symbols in
      let a = (pair_symbols file ok j m).1 in
      omega (arith, size_is file ok)

  -- LAW: no pair from one on is of an earlier row
  pub none_before : (k row first : ℕ) → row ≡ lower_at file k → k ≤ first → NoneBefore file row first
  none_before k row first is a j b m = omega (arith, lowers k j (omega arith) m)

  -- LAW: a stretch whose last pair is of a row, and none of whose pairs is of an earlier one, is of it throughout
  pub stretch_passed : (row first k step : ℕ) → NoneBefore file row first → ((j : ℕ) → first ≤ j → j < k → lower_at file j ≡ row) → 0 < step → k + step ≤ n
      → lower_at file (k + step - 1) ≡ row → (j : ℕ) → first ≤ j → j < k + step → lower_at file j ≡ row
  stretch_passed row first k step none same p l e j a b = go (dec_lt j k)
    where
      go : Dec (j < k) → lower_at file j ≡ row
      go (yes v) = same j a v
      go (no v) = omega (arith, none j a (omega arith), lowers j (k + step - 1) (omega arith) (omega arith))

  -- the row of pair k, passed by stretches and then one by one
  module _ (k row near end stretch : ℕ) (l : k < n) (is : row ≡ lower_at file k) (parted : Parted file k) (p : PassedRow file row k stretch near) (q : PassedRow file row near 1 end) where
    -- what is passed is of the row
    same : (j : ℕ) → k ≤ j → j < end → lower_at file j ≡ row
    same j a b = go (dec_lt j near)
      where
        go : Dec (j < near) → lower_at file j ≡ row
        go (yes v) = p.same j a v
        go (no v) = q.same j (omega arith) b

    -- what comes behind it is of a later one
    later : (j : ℕ) → end ≤ j → j < n → row < lower_at file j
    later j a m = go (ℕ_discrete (lower_at file end) row)
      where
        here : end + 1 - 1 ≡ end
        here = omega arith

        go : Dec (lower_at file end ≡ row) → row < lower_at file j
        go (yes s) = absurd (q.stops (omega arith) (ap (lower_at file) here ∙ s))
        go (no s) = omega (arith, none_before k row k is (omega arith) end (omega (arith, p.onward, q.onward)) (omega arith), lowers end j a m)

    -- LAW: no row goes on behind its end
    pub parted_again : Parted file end
    parted_again i j a b m = go (dec_lt i k)
      where
        go : Dec (i < k) → lower_at file i < lower_at file j
        go (yes v) = omega (arith, parted i k v (omega arith) l, later j b m)
        go (no v) = omega (arith, same i (omega arith) a, later j b m)

    -- LAW: all of it stands here
    pub row_stands : RowStands file row k end
    row_stands = record { symbol = omega (arith, (pair_symbols file ok k l).0); within = q.within; inside = λ j m e. (begins j e (dec_lt j k), ends j m e (dec_lt j end)) }
      where
        begins : (j : ℕ) → lower_at file j ≡ row → Dec (j < k) → k ≤ j
        begins j e (yes v) = absurd (omega (arith, parted j k v (omega arith) l))
        begins j e (no v) = omega arith

        ends : (j : ℕ) → j < n → lower_at file j ≡ row → Dec (j < end) → j < end
        ends j m e (yes v) = v
        ends j m e (no v) = absurd (omega (arith, later j (omega arith) m))

  -- LAW: the pair of two symbols, if it is listed, stands in the lower one's row
  pub row_between : (rows : List ℕ) → Rows file rows → (lower higher : ℕ) → higher < 65536
      → Between (key_at file) n (key_of lower higher) (get_or rows (2 * lower) 0) (n - get_or rows (2 * lower + 1) 0)
  row_between rows laid lower higher fits = record { within = omega arith; stands = stands }
    where
      stands : (k : ℕ) → k < n → key_at file k ≡ key_of lower higher → (get_or rows (2 * lower) 0 ≤ k) × (k < n - get_or rows (2 * lower + 1) 0)
      stands k l e =
          let same = (same_symbols file ok lower higher fits k l e).0 in
          rw same (laid.from k l, omega (arith, laid.behind k l))
