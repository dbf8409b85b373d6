-- Degrees that are kept: a symbol's are copied to its place and its tag tells it then. No other place is touched, since one ends where the next begins,
-- and no other tag.
use mathlib.Core.Path.{◌≡◌, sym as inv, ap, ◌∙◌}
use mathlib.Core.List.{List}
use Prim.Native.Nat.{ℕ, ◌+◌, ◌*◌, ◌%◌, ◌≤◌, ◌<◌}
use native.Mathlib.Nat.{mul-le-mul_right, suc-mul}
use native.Mathlib.Decide.{dec_lt, ℕ_discrete}
use native.Mathlib.Omega.{arith}
use borrow.Author.Tests.{lt-leb}
use lib.ListN.{length, get_or, set, length-set}
use lib.Seq.{get_or-set_same, get_or-set_other}
use Rattle.meaning.specs.File.{table_in}
use Rattle.meaning.specs.Refusals.{SoundFile}
use Rattle.wide.specs.Index.{kept_rows, small_table, tags_at, row_at, index_room, Chained, DegreesFrom, Kept}
use Rattle.wide.specs.Laid.{DegreesOf}
use Rattle.wide.proofs.Written.{Written}
use Rattle.wide.proofs.Chains.{rows_kept, linked_kept}

-- ---- places

-- LAW: one ends before a later one begins
pub places_apart : (size slot later : ℕ) → slot < later → slot * size + size ≤ later * size
places_apart size slot later l = omega (arith, suc-mul slot size, mul-le-mul_right size l)

-- LAW: and all are within the list
pub place_within : (file index : List ℕ) → small_table < (table_in file).size → index_room file ≤ length index → (slot : ℕ) → slot < kept_rows
    → row_at file slot + (table_in file).size ≤ length index
place_within file index big room slot l = omega (arith, rw (lt-leb (table_in file).size small_table big) at room, places_apart (table_in file).size slot kept_rows l)

-- ---- one symbol more

module _ (file : List ℕ) (ok : SoundFile file) (a tag from : ℕ) (tag_is : tag ≡ tags_at file + a % kept_rows) (from_is : from ≡ row_at file (a % kept_rows))
    (row index copied : List ℕ) (degrees : DegreesOf file a row) (copy : Written from (table_in file).size row index copied) (inside : tag < length copied) where
  -- the list with the symbol's tag
  abbrev tagged : List ℕ
  tagged = set copied tag (a + 1)

  -- LAW: its degrees are at its place
  pub degrees_there : DegreesFrom file a from tagged
  degrees_there s l = get_or-set_other copied tag (from + s) (a + 1) 0 (λ e. omega arith) ∙ copy.there s l ∙ degrees s l

  -- what stands before its place and is not its tag
  before_place : (i : ℕ) → i < from → (i ≡ tag → ⊥) → get_or tagged i 0 ≡ get_or index i 0
  before_place i l n = get_or-set_other copied tag i (a + 1) 0 n ∙ copy.same_before i l

  -- .. and behind it
  behind_place : (i : ℕ) → from + (table_in file).size ≤ i → get_or tagged i 0 ≡ get_or index i 0
  behind_place i l = get_or-set_other copied tag i (a + 1) 0 (λ e. omega arith) ∙ copy.same_behind i l

  -- LAW
  pub kept_more : Kept file index → Kept file tagged
  kept_more kept slot b l tells = go (ℕ_discrete slot (a % kept_rows))
    where
      other : (slot ≡ a % kept_rows → ⊥) → Dec (slot < a % kept_rows) → (s : ℕ) → s < (table_in file).size → get_or tagged (row_at file slot + s) 0 ≡ get_or index (row_at file slot + s) 0
      other n (yes v) s u = before_place (row_at file slot + s) (omega (arith, places_apart (table_in file).size slot (a % kept_rows) v)) (λ e. omega arith)
      other n (no v) s u = let later : a % kept_rows < slot = omega arith in behind_place (row_at file slot + s) (omega (arith, places_apart (table_in file).size (a % kept_rows) slot later))

      go : Dec (slot ≡ a % kept_rows) → DegreesFrom file b (row_at file slot) tagged
      go (yes e) s u =
          let here : tags_at file + slot ≡ tag = omega arith in
          let own = ap (λ (i : ℕ). get_or tagged i 0) here ∙ get_or-set_same copied tag (a + 1) 0 inside in
          let same : a ≡ b = omega (arith, own, tells) in
          ap (λ (i : ℕ). get_or tagged (i + s) 0) (ap (row_at file) e ∙ inv from_is) ∙ degrees_there s u ∙ ap ((table_in file).deg s) same
      go (no n) s u =
          other n (dec_lt slot (a % kept_rows)) s u ∙ kept slot b l (inv (before_place (tags_at file + slot) (omega arith) (λ e. n (omega arith))) ∙ tells) s u

  -- LAW
  pub chained_more : length copied ≡ length index → Chained file index → Chained file tagged
  chained_more long chained = (
    record {
      room = rw length-set (omega (arith, chained.0.room));
      rows = rows_kept file ok index tagged (length-set copied tag (a + 1) ∙ long) (λ i m. before_place i (omega arith) (λ e. omega arith)) chained.0.rows;
      linked = λ _. linked_kept file ok index tagged (λ i m l. before_place i (omega arith) (λ e. omega arith)) (chained.0.linked chained.1);
      kept = λ _ big. kept_more (chained.0.kept chained.1 big);
    },
    before_place _ (omega arith) (λ e. omega arith) ∙ chained.1,
  )
