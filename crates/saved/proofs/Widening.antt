-- The converter's answer follows from two tests, and what it leaves from one position after the other: each lays its set behind those before it.
use mathlib.Core.Path.{◌≡◌, sym, ap, ap₂, ◌∙◌}
use mathlib.Core.List.{List, ◌++◌, append-nil}
use Prim.Native.Nat.{ℕ, ◌+◌, ◌-◌, ◌*◌, ◌/◌, ◌%◌, ◌≤◌, ◌<◌}
use native.Mathlib.Nat.{zero-add}
use native.Mathlib.Omega.{arith}
use borrow.Author.Tests.{lt-ltb, le-ltb, eq-eqb, ne_eqb}
use lib.ListN.{length, get_or, set as put, take, drop, get_or-eq_default}
use lib.Seq.{get_or-take, get_or-drop, take_all}
use Rattle.meaning.specs.Limits.{set_words_lem}
use Rattle.meaning.specs.Refusals.{row8-output}
use Rattle.meaning.specs.Packing.{through}
use Rattle.meaning.specs.Calls.{zeros}
use Rattle.meaning.specs.Saved.{saved_words, saved_set_lem, widened_set, widened, row8-words, widen_rows, widened_count, later_words}
use Rattle.meaning.specs.Over.{over}
use Rattle.meaning.proofs.Over.{over_front, over_then, store_more}
use Rattle.meaning.proofs.Packing.{length_below}
use Rattle.meaning.proofs.Words.{through_last}
use Rattle.meaning.proofs.Saved.{Whole, length_saved, wide, twice_as_many, get_or_padded}
use Rattle.std.specs.Prelude.{Ok, Err}
use Rattle.refusal.specs.declared.Refusal.TheVariants.{Room}
use Rattle.saved.specs.Widening.{Widen}

-- ---- one set

module _ (words : List ℕ) (p : ℕ) (l : saved_words * (p + 1) ≤ length words) where
  whole_set : length (widened_set words p) ≡ set_words_lem
  whole_set = wide words p (omega arith)

  -- LAW: its words are the saved ones, and zeros
  pub word_saved : (w : ℕ) → w < saved_words → get_or words (saved_words * p + w) 0 ≡ get_or (widened_set words p) w 0
  word_saved w m =
      let front = drop (saved_words * p) words in
      sym (get_or_padded (saved_set_lem words p) (set_words_lem - saved_words) w ∙ get_or-take saved_words front w 0 m ∙ get_or-drop (saved_words * p) words w 0)

  pub word_new : (w : ℕ) → saved_words ≤ w → 0 ≡ get_or (widened_set words p) w 0
  word_new w m =
      sym (get_or_padded (saved_set_lem words p) (set_words_lem - saved_words) w ∙ get_or-eq_default (saved_set_lem words p) 0 (omega (arith, length_saved words p (omega arith))))

  -- LAW: laid over zeros word by word
  pub word_more : (w : ℕ) (set : List ℕ) (word : ℕ) → w < set_words_lem → set ≡ over (zeros set_words_lem) 0 (take w (widened_set words p)) → word ≡ get_or (widened_set words p) w 0
      → put set w word ≡ over (zeros set_words_lem) 0 (take (w + 1) (widened_set words p))
  word_more w set word m e f =
      let s = widened_set words p in
      ap₂ (λ (xs : List ℕ) (n : ℕ). put xs w n) e f
      ∙ ap (λ (i : ℕ). put (over (zeros set_words_lem) 0 (take w s)) i (get_or s w 0)) (sym (zero-add w))
      ∙ store_more (zeros set_words_lem) 0 s w (omega (arith, whole_set)) (omega arith)

  -- LAW: all of them are the set
  pub all_words : (w : ℕ) → w ≡ set_words_lem → over (zeros set_words_lem) 0 (take w (widened_set words p)) ≡ widened_set words p
  all_words w e =
      let s = widened_set words p in
      ap (over (zeros set_words_lem) 0) (take_all w s (omega (arith, whole_set)))
      ∙ over_front (zeros set_words_lem) s
      ∙ ap (λ (n : ℕ). s ++ drop n (zeros set_words_lem)) whole_set
      ∙ append-nil s

-- ---- the call

module _ (words output : List ℕ) where
  -- LAW: words that are not those of whole sets
  pub uneven : (Whole words → ⊥) → Widen words output (Err Room) output
  unfolding widened_count later_words widen_rows row8-words
  uneven u = let e = ne_eqb (length words % saved_words) 0 u in record { answers = rw e; leaves = rw e }

  -- LAW: an output that is too short
  pub short : Whole words → length output < 2 * length words → Widen words output (Err Room) output
  unfolding widened_count later_words widen_rows row8-words row8-output
  short w l =
      let e = eq-eqb (length words % saved_words) 0 w in
      let f = lt-ltb (length output) (2 * length words) l in
      record { answers = rw (e, f); leaves = rw (e, f) }

  module _ (w : Whole words) (room : 2 * length words ≤ length output) where
    -- LAW: a position more
    pub set_more : (p : ℕ) → p < length words / saved_words
        → over (over output 0 (through p (widened_set words))) (set_words_lem * p) (widened_set words p) ≡ over output 0 (through (p + 1) (widened_set words))
    set_more p l =
        let long = length_below (widened_set words) set_words_lem p (λ k m. wide words k (omega arith)) in
        ap (λ (at : ℕ). over (over output 0 (through p (widened_set words))) at (widened_set words p)) (sym (zero-add (set_words_lem * p)))
        ∙ over_then output 0 (through p (widened_set words)) (set_words_lem * p) (widened_set words p) long (omega arith)
        ∙ ap (over output 0) (sym (through_last p (widened_set words)))

    -- LAW: after all of them
    pub all_put : (later : List ℕ) → later ≡ over output 0 (through (length words / saved_words) (widened_set words)) → Widen words output (Ok (2 * length words)) later
    unfolding widened_count later_words widen_rows row8-words row8-output widened
    all_put later e =
        let f = eq-eqb (length words % saved_words) 0 w in
        let g = le-ltb (length output) (2 * length words) room in
        record {
          answers = rw (f, g);
          leaves = rw (f, g) (e ∙ over_front output (widened words) ∙ ap (λ (n : ℕ). widened words ++ drop n output) (twice_as_many words w));
        }
