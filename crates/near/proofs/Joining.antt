-- A bit that is set in one word of a symbol leaves every other bit and every other word as they were, and what is kept with the set can only
-- grow.
use mathlib.Core.Path.{◌≡◌, sym as inv, ap, ◌∙◌}
use mathlib.Core.List.{List}
use mathlib.Core.Bool.{Bool, ◌&&◌, ◌||◌, cond, or-false}
use Prim.Native.Nat.{ℕ, ◌+◌, ◌-◌, ◌*◌, ◌/◌, ◌%◌, ◌^◌, ◌≤◌, ◌<◌, max}
use native.Mathlib.Decide.{ℕ_discrete}
use native.Mathlib.Omega.{arith}
use borrow.Author.Tests.{eq-eqb, ne_eqb}
use lib.Dec.{eqb}
use lib.Bits.{bit_or}
use lib.ListN.{length, get_or, set, take, drop, length-set}
use lib.Seq.{get_or-set_same, get_or-set_other, get_or-take, get_or-drop}
use Rattle.meaning.specs.Limits.{word_bits, set_words_lem, set_room}
use Rattle.meaning.specs.Buffers.{bit, member}
use Rattle.meaning.specs.Over.{over}
use Rattle.sets.proofs.Laws.{member_with}
use Rattle.near.specs.Near.{near_words, in_row, kept, OwnJoined, Joined}
use Rattle.near.proofs.Laying.{laid, not_laid, words_hold}

-- ---- in the words of one symbol

-- LAW: where the bit of k is set, and the last of the words grows to what 1002 is above the degree, k has joined the set
pub own_joined : (own : List ℕ) (k degree : ℕ) → near_words ≤ length own → k < set_room → (word far : ℕ)
    → word ≡ bit_or (get_or own (k / word_bits) 0) (2 ^ (k % word_bits)) → far ≡ max (get_or (set own (k / word_bits) word) set_words_lem 0) (1002 - degree)
    → OwnJoined k degree own (set (set own (k / word_bits) word) set_words_lem far)
unfolding member
own_joined own k degree room small word far is grows =
    record {
      has = λ g j l.
          ap (bit (j % word_bits)) (get_or-set_other (set own (k / word_bits) word) set_words_lem (j / word_bits) far 0 (λ e. omega arith))
          ∙ rw is (member_with own k (omega arith) j);
      far = λ g.
          get_or-set_same (set own (k / word_bits) word) set_words_lem far 0 (omega (arith, length-set own (k / word_bits) word))
          ∙ grows
          ∙ ap (λ (n : ℕ). max n (1002 - degree)) (get_or-set_other own (k / word_bits) set_words_lem word 0 (λ e. omega arith));
    }

-- ---- in a set among others

-- the words of h, laid where they were once k has joined them
module _ (near : List ℕ) (h k degree : ℕ) (own : List ℕ) (room : near_words * (h + 1) ≤ length near) (whole : length own ≡ near_words) where
  abbrev words : List ℕ
  words = take near_words (drop (near_words * h) near)

  abbrev result : List ℕ
  result = over near (near_words * h) own

  inside : near_words * h + length own ≤ length near
  inside = omega arith

  its : (w : ℕ) → w < near_words → get_or words w 0 ≡ get_or near (near_words * h + w) 0
  its w l = get_or-take near_words (drop (near_words * h) near) w 0 l ∙ get_or-drop (near_words * h) near w 0

  back : (w : ℕ) → w < near_words → get_or own w 0 ≡ get_or result (near_words * h + w) 0
  back w l = inv (laid near (near_words * h) own inside w (omega arith))

  other : (p w : ℕ) → (p ≡ h → ⊥) → w < near_words → get_or result (near_words * p + w) 0 ≡ get_or near (near_words * p + w) 0
  other p w q l = not_laid near (near_words * h) own inside (near_words * p + w) (λ a b. q (omega arith))

  -- LAW: k has joined the set of h
  pub joined : OwnJoined k degree words own → Joined h k degree near result
  unfolding in_row kept
  joined joins =
      record { has = λ p j g l. has p j g l (ℕ_discrete p h); far = λ p g. far p g (ℕ_discrete p h) }
    where
      last : get_or words set_words_lem 0 ≡ kept near h
      last = its set_words_lem (omega arith)

      has : (p j : ℕ) → 1 < kept near p → j < set_room → Dec (p ≡ h) → in_row result p j ≡ (in_row near p j || (eqb p h && eqb j k))
      has p j g l (yes q) =
          rw (eq-eqb p h q, q)
          (inv (words_hold result h own (λ w l. back w (omega arith)) j l)
          ∙ joins.has (omega (arith, last, ap (kept near) q)) j l
          ∙ ap (λ (b : Bool). b || eqb j k) (words_hold near h words (λ w l. its w (omega arith)) j l))
      has p j g l (no q) = rw (ne_eqb p h q) (ap (bit (j % word_bits)) (other p (j / word_bits) q (omega arith)) ∙ inv (or-false _))

      far : (p : ℕ) → 1 < kept near p → Dec (p ≡ h) → kept result p ≡ cond (eqb p h) (max (kept near p) (1002 - degree)) (kept near p)
      far p g (yes q) =
          rw (eq-eqb p h q, q)
          (inv (back set_words_lem (omega arith))
          ∙ joins.far (omega (arith, last, ap (kept near) q))
          ∙ ap (λ (n : ℕ). max n (1002 - degree)) last)
      far p g (no q) = rw (ne_eqb p h q) (other p set_words_lem q (omega arith))
