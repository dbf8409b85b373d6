-- The words of a symbol's set are written anew, all of them, so that it does not matter what stood there; no other symbol has a word among them. So a
-- symbol that is met again in the heading is passed over, and what was begun for it before stays.
use mathlib.Core.Path.{◌≡◌, refl, sym as inv, ap, ap₂, ◌∙◌, subst}
use mathlib.Core.Logic.{inl, inr}
use mathlib.Core.List.{List}
use Prim.Native.Nat.{ℕ, ◌+◌, ◌*◌, ◌/◌, ◌%◌, ◌^◌, ◌≤◌, ◌<◌}
use native.Mathlib.Decide.{ℕ_discrete}
use native.Mathlib.Omega.{arith}
use lib.Dec.{eqb}
use lib.ListN.{length, get_or, set, length-set, length-replicate}
use lib.Seq.{get_or-set_same, get_or-set_other}
use Rattle.meaning.specs.Limits.{word_bits, set_words_lem, set_room}
use Rattle.meaning.specs.Buffers.{bit, member}
use Rattle.meaning.specs.Over.{over}
use Rattle.meaning.specs.Calls.{zeros}
use Rattle.meaning.proofs.Over.{length_over}
use Rattle.sets.specs.Words.{one_bit}
use Rattle.sets.proofs.Laws.{member_one}
use Rattle.near.specs.Near.{near_words, in_row, kept, Alone, Unpaired, Opened}
use Rattle.near.proofs.Laying.{laid, laid_set, not_laid, words_hold}

-- ---- one set

-- a set laid over the words of h, with 2 behind it
module _ (near : List ℕ) (h : ℕ) (words : List ℕ) (room : near_words * (h + 1) ≤ length near) (whole : length words ≡ set_words_lem) where
  abbrev laid_over : List ℕ
  laid_over = over near (near_words * h) words

  abbrev later : List ℕ
  later = set laid_over (near_words * h + set_words_lem) 2

  inside : near_words * h + length words ≤ length near
  inside = omega arith

  -- h is alone in it
  opened : ((k : ℕ) → member words k ≡ eqb k h) → Opened h near later
  unfolding kept
  opened only =
      record {
        alone = λ _. record {
          has = λ k l. inv (words_hold later h words here k l) ∙ only k;
          top = get_or-set_same laid_over (near_words * h + set_words_lem) 2 0 (omega (arith, length_over near (near_words * h) words inside));
        };
        others = λ p w other l.
            get_or-set_other laid_over (near_words * h + set_words_lem) (near_words * p + w) 2 0 (λ e. other (omega arith))
            ∙ not_laid near (near_words * h) words inside (near_words * p + w) (λ a b. other (omega arith));
      }
    where
      here : (w : ℕ) → w < set_words_lem → get_or words w 0 ≡ get_or later (near_words * h + w) 0
      here w l =
          inv
          (get_or-set_other laid_over (near_words * h + set_words_lem) (near_words * h + w) 2 0 (λ e. omega arith)
          ∙ laid near (near_words * h) words inside w (omega arith))

-- LAW: so it is where the words are emptied, and the bit of h is set in its word
pub opened_anew : (near : List ℕ) (h : ℕ) → near_words * (h + 1) ≤ length near → h < set_room → (empty : List ℕ) (word : ℕ)
    → empty ≡ over near (near_words * h) (zeros set_words_lem) → word ≡ 2 ^ (h % word_bits)
    → Opened h near (set (set empty (near_words * h + h / word_bits) word) (near_words * h + set_words_lem) 2)
opened_anew near h room l empty word cleared one =
    subst (λ (l : List ℕ). Opened h near (set l (near_words * h + set_words_lem) 2)) (inv alone)
    (opened near h (one_bit set_words_lem h) room (length-set (zeros set_words_lem) (h / word_bits) (2 ^ (h % word_bits)) ∙ none) (member_one set_words_lem h l))
  where
    none : length (zeros set_words_lem) ≡ set_words_lem
    none = length-replicate {A = ℕ} set_words_lem 0

    alone : set empty (near_words * h + h / word_bits) word ≡ over near (near_words * h) (one_bit set_words_lem h)
    alone =
        ap₂ (λ (l : List ℕ) (v : ℕ). set l (near_words * h + h / word_bits) v) cleared one
        ∙ laid_set near (near_words * h) (zeros set_words_lem) (omega (arith, none)) (h / word_bits) (2 ^ (h % word_bits)) (omega (arith, none))

-- LAW: a set that is gathered is left as it is
pub passed : (near : List ℕ) (h : ℕ) → (kept near h ≡ 1 → ⊥) → Opened h near near
passed near h gathered = record { alone = only; others = λ p w other l. refl }
  where
    only : Unpaired near h → Alone near h
    only (inl e) = absurd (gathered e)
    only (inr a) = a

-- ---- set after set

module _ (h : ℕ) (before after : List ℕ) (step : Opened h before after) where
  -- LAW: what was begun for a symbol stays
  pub still_alone : (p : ℕ) → Alone before p → Alone after p
  unfolding in_row kept
  still_alone p a = go (ℕ_discrete p h)
    where
      go : Dec (p ≡ h) → Alone after p
      go (yes e) = subst (Alone after) (inv e) (step.alone (inr (subst (Alone before) e a)))
      go (no other) = record { has = λ k l. row k l ∙ a.has k l; top = last ∙ a.top }
        where
          row : (k : ℕ) → k < set_room → in_row after p k ≡ in_row before p k
          row k l = ap (bit (k % word_bits)) (step.others p (k / word_bits) other (omega arith))

          last : kept after p ≡ kept before p
          last = step.others p set_words_lem other (omega arith)

  -- LAW: and no pair is looked at
  pub still_unpaired : Unpaired before h → (p : ℕ) → Unpaired before p → Unpaired after p
  unfolding kept
  still_unpaired this p (inr a) = inr (still_alone p a)
  still_unpaired this p (inl e) = go (ℕ_discrete p h)
    where
      go : Dec (p ≡ h) → Unpaired after p
      go (yes q) = inr (subst (Alone after) (inv q) (step.alone this))
      go (no other) = inl (step.others p set_words_lem other (omega arith) ∙ e)
