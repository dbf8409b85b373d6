-- Pairs chained one after the other: a pair is linked to the last before it that has its higher symbol, which was the head, and is the head
-- then; the heads of all other symbols stay.
use mathlib.Core.Path.{◌≡◌, sym as inv, ap, ◌∙◌}
use mathlib.Core.List.{List}
use Prim.Native.Nat.{ℕ, ◌+◌, ◌*◌, ◌≤◌, ◌<◌}
use native.Mathlib.Decide.{ℕ_discrete}
use native.Mathlib.Omega.{arith}
use borrow.Author.Tests.{eq-eqb, ne_eqb}
use borrow.Author.Count.{below_none, below_more}
use lib.Dec.{eqb}
use lib.ListN.{length, get_or, set, length-set, length-replicate}
use lib.Seq.{get_or-set_same, get_or-set_other}
use Rattle.theory.specs.Least.{last_below}
use Rattle.meaning.specs.File.{pair_count_lem, table_in}
use Rattle.meaning.specs.Tables.{lower_at, higher_at}
use Rattle.meaning.specs.Refusals.{SoundFile}
use Rattle.meaning.specs.Calls.{zeros}
use Rattle.meaning.proofs.Bits.{get_or_zeros}
use Rattle.meaning.proofs.First.{last_here, last_before}
use Rattle.degrees.specs.Rows.{Rows, RowsLaid}
use Rattle.degrees.proofs.Listed.{pair_symbols}
use Rattle.degrees.proofs.Narrowing.{rows_anywhere}
use Rattle.wide.proofs.Written.{Written}
use Rattle.wide.specs.Index.{last_with, kept_rows, linked_at, heads_at, links_at, tags_at, index_room, Linked, Index, Chained}

-- ---- an index that changes

module _ (file : List ℕ) (ok : SoundFile file) (before after : List ℕ) where
  -- LAW: rows stay where the front of the list does
  pub rows_kept : length after ≡ length before → ((i : ℕ) → i < 2 * (table_in file).size → get_or after i 0 ≡ get_or before i 0) → Rows file before → Rows file after
  rows_kept e same rows =
      record {
        room = omega (arith, rows.room);
        from = λ k l. let s = symbol k l in omega (arith, same (2 * lower_at file k) (omega arith), rows.from k l);
        behind = λ k l. let s = symbol k l in omega (arith, same (2 * lower_at file k + 1) (omega arith), rows.behind k l);
        within = λ s l. omega (arith, same (2 * s + 1) (omega arith), rows.within s l);
      }
    where
      symbol : (k : ℕ) → k < pair_count_lem file → lower_at file k < (table_in file).size
      symbol k l = (pair_symbols file ok k l).0

  -- LAW: .. and chains where what stands from the mark to the tags does
  pub linked_kept : ((i : ℕ) → heads_at file ≤ i → i < tags_at file → get_or after i 0 ≡ get_or before i 0) → Linked file (pair_count_lem file) before → Linked file (pair_count_lem file) after
  linked_kept same linked =
      record {
        heads = λ h l. same (heads_at file + h) (omega arith) (omega arith) ∙ linked.heads h l;
        links = λ k l. same (links_at file + k) (omega arith) (omega arith) ∙ linked.links k l;
      }

-- ---- one pair more

module _ (file : List ℕ) (ok : SoundFile file) (k head link : ℕ) (l : k < pair_count_lem file) (head_is : head ≡ heads_at file + higher_at file k) (link_is : link ≡ links_at file + k)
    (index : List ℕ) (room : index_room file ≤ length index) where
  -- the list with the pair linked, and then at the head of its chain
  abbrev linked_on : List ℕ
  linked_on = set index link (get_or index head 0)

  abbrev chained : List ℕ
  chained = set linked_on head (k + 1)

  symbol : higher_at file k < (table_in file).size
  symbol = (pair_symbols file ok k l).1

  -- what is neither link nor head stays
  elsewhere : (i : ℕ) → (i ≡ link → ⊥) → (i ≡ head → ⊥) → get_or chained i 0 ≡ get_or index i 0
  elsewhere i n m = get_or-set_other linked_on head i (k + 1) 0 m ∙ get_or-set_other index link i (get_or index head 0) 0 n

  -- LAW
  pub linked_next : Linked file k index → Linked file (k + 1) chained
  linked_next linked =
      record {
        heads = λ h m. at_head h m (ℕ_discrete (higher_at file k) h);
        links = below_more _ k (λ j m. elsewhere (links_at file + j) (λ e. omega arith) (λ e. omega (arith, symbol)) ∙ linked.links j m) at_link;
      }
    where
      at_head : (h : ℕ) → h < (table_in file).size → Dec (higher_at file k ≡ h) → get_or chained (heads_at file + h) 0 ≡ last_with file h (k + 1)
      at_head h m (yes e) =
          let here : heads_at file + h ≡ head = omega arith in
          ap (λ (i : ℕ). get_or chained i 0) here
          ∙ get_or-set_same linked_on head (k + 1) 0 (rw (length-set index link (get_or index head 0)) (omega (arith, symbol)))
          ∙ inv (last_here (λ j. eqb (higher_at file j) h) k (eq-eqb (higher_at file k) h e))
      at_head h m (no d) = elsewhere (heads_at file + h) (λ e. omega arith) (λ e. d (omega arith)) ∙ linked.heads h m ∙ inv (last_before (λ j. eqb (higher_at file j) h) k (ne_eqb (higher_at file k) h d))

      at_link : get_or chained (links_at file + k) 0 ≡ last_with file (higher_at file k) k
      at_link =
          ap (λ (i : ℕ). get_or chained i 0) (inv link_is)
          ∙ get_or-set_other linked_on head link (k + 1) 0 (λ e. omega (arith, symbol))
          ∙ get_or-set_same index link (get_or index head 0) 0 (omega arith)
          ∙ ap (λ (i : ℕ). get_or index i 0) head_is
          ∙ linked.heads (higher_at file k) symbol

  -- LAW
  pub rows_next : Rows file index → Rows file chained
  rows_next = rows_kept file ok index chained (simp length-set) (λ i m. elsewhere i (λ e. omega arith) (λ e. omega arith))

-- ---- nothing laid out yet

module _ (file : List ℕ) (ok : SoundFile file) (index : List ℕ) (room : index_room file ≤ length index) where
  -- LAW: zeros, which say of each row that it may stand anywhere, and no mark
  pub opened : ((i : ℕ) → i ≤ linked_at file → get_or index i 0 ≡ 0) → Index file index
  opened cleared =
      record {
        room = room;
        rows = rows_kept file ok (zeros (length index)) index (inv (length-replicate {A = ℕ} (length index) 0)) (λ i m. cleared i (omega arith) ∙ inv (get_or_zeros (length index) i))
            (rows_anywhere file (zeros (length index)) (rw (length-replicate {A = ℕ} (length index) 0) (omega arith)) (ap zeros (inv (length-replicate {A = ℕ} (length index) 0))));
        linked = λ mark. absurd (omega (arith, cleared (linked_at file) (omega arith)));
        kept = λ mark. absurd (omega (arith, cleared (linked_at file) (omega arith)));
      }

  -- LAW: no pair is chained where the heads are 0
  pub none_linked : ((i : ℕ) → heads_at file ≤ i → i < links_at file → get_or index i 0 ≡ 0) → Linked file 0 index
  unfolding last_below
  none_linked cleared = record { heads = λ h l. cleared (heads_at file + h) (omega arith) (omega arith); links = below_none _ }

-- ---- the mark

module _ (file : List ℕ) (ok : SoundFile file) (mark tags : ℕ) (mark_is : mark ≡ linked_at file) (tags_are : tags ≡ tags_at file) (laid index : List ℕ)
    (long : length index ≡ length laid) (room : index_room file ≤ length index) (cleared : Written tags kept_rows (zeros kept_rows) laid index) where
  -- what stands before the tags and is not the mark
  before_tags : (i : ℕ) → i < tags_at file → (i ≡ mark → ⊥) → get_or (set index mark 1) i 0 ≡ get_or laid i 0
  before_tags i l n = get_or-set_other index mark i 1 0 n ∙ cleared.same_before i (omega arith)

  -- the tags
  no_tag : (slot : ℕ) → slot < kept_rows → get_or (set index mark 1) (tags_at file + slot) 0 ≡ 0
  no_tag slot l = get_or-set_other index mark (tags_at file + slot) 1 0 (λ e. omega arith) ∙ rw (tags_are) at (cleared.there slot l) ∙ get_or_zeros kept_rows slot

  -- LAW: rows and chains are laid out, the tags are cleared, so that they tell no symbol, and the mark is set
  pub marked : Rows file laid → Linked file (pair_count_lem file) laid → Chained file (set index mark 1)
  marked rows linked = (
    record {
      room = rw (length-set index mark 1) room;
      rows = rows_kept file ok laid (set index mark 1) (length-set index mark 1 ∙ long) (λ i m. before_tags i (omega arith) (λ e. omega arith)) rows;
      linked = λ _. linked_kept file ok laid (set index mark 1) (λ i m l. before_tags i l (λ e. omega arith)) linked;
      kept = λ _ _ slot a l tag. absurd (omega (arith, no_tag slot l));
    },
    ap (λ (i : ℕ). get_or (set index mark 1) i 0) (inv mark_is) ∙ get_or-set_same index mark 1 0 (omega arith),
  )

-- LAW: laying the rows leaves an index an index
pub index_laid : {file before after : List ℕ} → Index file before → RowsLaid file before after → length after ≡ length before → Index file after
index_laid i laid long =
    record {
      room = omega (arith, i.room);
      rows = laid.rows;
      linked = λ mark.
          let old = i.linked (inv (laid.rest _ (omega arith)) ∙ mark) in
          record {
            heads = λ h l. laid.rest _ (omega arith) ∙ old.heads h l;
            links = λ k l. laid.rest _ (omega arith) ∙ old.links k l;
          };
      kept = λ mark big slot a l tag s u.
          laid.rest _ (omega arith) ∙ i.kept (inv (laid.rest _ (omega arith)) ∙ mark) big slot a l (inv (laid.rest _ (omega arith)) ∙ tag) s u;
    }
