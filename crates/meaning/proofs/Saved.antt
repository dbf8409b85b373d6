-- The converter: every set has as many words as the next, before and after, so what one reads at a position is that position's set alone; and zeros
-- behind a set's words are no symbols.
use mathlib.Core.Path.{◌≡◌, refl, sym as inv, ap, ◌∙◌}
use mathlib.Core.Logic.{◌↔◌}
use mathlib.Core.List.{List, [], ◌∷◌, ◌++◌}
use mathlib.Core.Bool.{false, not}
use mathlib.Core.Option.{Option, none, some as just}
use Prim.Native.Nat.{ℕ, zero, suc, ◌+◌, ◌-◌, ◌*◌, ◌/◌, ◌%◌, ◌≤◌, ◌<◌}
use native.Mathlib.Omega.{arith}
use lib.Dec.{eqb, ltb}
use lib.ListN.{length, get_or, take, drop, length-append, length-drop, length-replicate, get_or-append, get_or-eq_default}
use lib.Seq.{drop-append-add, take_at, length-take-le}
use borrow.Author.Tests.{ltb-false, eqb-true, not-false}
use Rattle.theory.specs.Tree.{Term, enc}
use Rattle.theory.specs.Table.{Table, Over}
use Rattle.theory.proofs.Draw.{over-at}
use Rattle.meaning.specs.Limits.{word_bits, set_words_lem, set_room}
use Rattle.meaning.specs.Refusals.{Refusal, Row, first, row8-output}
use Rattle.meaning.specs.Calls.{gives, unless, zeros}
use Rattle.meaning.specs.Buffers.{first_position_lem, position_count_lem, bit, member, holds, DrawnFrom}
use Rattle.meaning.specs.Saved.{saved_words, saved_room, saved_set_lem, widened_set, widened, row8-words, widen_rows, widened_count, replaced, later_words, widen_call, DrawnThen, Widens}
use Rattle.meaning.proofs.First.{unless_refused, unless_gives, all_silent}
use Rattle.meaning.proofs.Sound.{at0-none}
use Rattle.meaning.proofs.Bits.{bit-zero, get_or_zeros}
use Rattle.meaning.proofs.Drawn.{get_d_any}
use Rattle.meaning.proofs.Packing.{length_below, at_below}

-- the words are those of whole sets
abbrev pub Whole : List ℕ → Type 0
Whole words = length words % saved_words ≡ 0

-- ---- how many words

module _ (words : List ℕ) where
  pub length_saved : (p : ℕ) → saved_words * suc p ≤ length words → length (saved_set_lem words p) ≡ saved_words
  length_saved p l = length-take-le saved_words (drop (saved_words * p) words) (omega (arith, length-drop (saved_words * p) words))

  pub wide : (p : ℕ) → p < length words / saved_words → length (widened_set words p) ≡ set_words_lem
  wide p l =
      omega (arith, length-append (saved_set_lem words p) (zeros (set_words_lem - saved_words)), length_saved p (omega arith), length-replicate {A = ℕ} (set_words_lem - saved_words) 0)

  pub length-widened : length (widened words) ≡ set_words_lem * (length words / saved_words)
  unfolding widened
  length-widened = length_below (widened_set words) set_words_lem (length words / saved_words) wide

  -- LAW: twice as many as were saved
  pub twice_as_many : Whole words → length (widened words) ≡ 2 * length words
  twice_as_many f = omega (arith, length-widened)

-- ---- reading

-- LAW: zeros behind a list are read as what is behind it
pub get_or_padded : (xs : List ℕ) (n i : ℕ) → get_or (xs ++ zeros n) i 0 ≡ get_or xs i 0
get_or_padded [] n i = get_or_zeros n i
get_or_padded (x ∷ xs) n zero = refl
get_or_padded (x ∷ xs) n (suc i) = get_or_padded xs n i

module _ (words rest : List ℕ) (p k : ℕ) (l : saved_words * p < length words) (f : Whole words) where
  -- LAW: one reads the set that was saved
  pub reads_saved : k < set_room → holds (widened words ++ rest) p k ≡ member (saved_set_lem words p) k
  unfolding holds member widened
  reads_saved m =
      ap (bit (k % word_bits))
      (get_or-append (widened words) rest 0 (set_words_lem * p + k / word_bits) (omega (arith, length-widened words))
      ∙ at_below (widened_set words) set_words_lem (length words / saved_words) (wide words) 0 p (k / word_bits) (omega arith) (omega arith)
      ∙ get_or_padded (saved_set_lem words p) (set_words_lem - saved_words) (k / word_bits))

  -- LAW: and no symbol that had no room
  pub no_more : saved_room ≤ k → member (saved_set_lem words p) k ≡ false
  unfolding member
  no_more m =
      ap (bit (k % word_bits)) (get_or-eq_default (saved_set_lem words p) 0 (omega (arith, length_saved words p (omega arith))))
      ∙ bit-zero (k % word_bits)

-- ---- the call

module _ (words output : List ℕ) where
  -- what is known where no row refuses
  room : first (widen_rows words output) ≡ none → Whole words × (2 * length words ≤ length output)
  unfolding widen_rows row8-words row8-output
  room e =
      let s = all_silent (widen_rows words output) e in (
        eqb-true (length words % saved_words) 0 (not-false _ (at0-none (not (eqb (length words % saved_words) 0)) s.0)),
        ltb-false (length output) (2 * length words) (at0-none (ltb (length output) (2 * length words)) s.1.0),
      )

  -- THEOREM: what the converter gives and leaves
  pub widens : Widens words output (widen_call words output)
  unfolding widened_count later_words
  widens =
      record {
        refusal_leaves = λ n place e. ap (replaced words output) (unless_refused (first rows) (2 * length words) n place e);
        twice = λ n e. inv (given n e).1;
        front = λ n e. front n (given n e).0 (given n e).1;
        same_sets = λ n e p l k m. same_sets (given n e).0 p l k m;
        no_other = λ n e p l k m b. let q = (given n e).0 in same_sets q p l k b ∙ no_more words [] p k l (room q).0 m;
        same_terms = λ n e T small spans v inside t. terms (given n e).0 T small spans v inside t;
        rest_stays = λ n e. rest n (given n e).0 (given n e).1;
        same_length = long (first rows) refl;
      }
    where
      rows : List Row
      rows = widen_rows words output

      given : (n : ℕ) → unless (first rows) (2 * length words) ≡ gives n → (first rows ≡ none) × (2 * length words ≡ n)
      given n e = unless_gives (first rows) (2 * length words) n e

      front : (n : ℕ) → first rows ≡ none → 2 * length words ≡ n → take n (replaced words output (first rows)) ≡ widened words
      front n q k = rw q (take_at (widened words) (drop (2 * length words) output) n (omega (arith, twice_as_many words (room q).0)))

      rest : (n : ℕ) → first rows ≡ none → 2 * length words ≡ n → drop n (replaced words output (first rows)) ≡ drop n output
      rest n q k =
          let m : n ≡ length (widened words) + 0 = omega (arith, twice_as_many words (room q).0) in
          rw q (ap (λ i. drop i (widened words ++ drop (2 * length words) output)) m ∙ drop-append-add (widened words) (drop (2 * length words) output) 0 ∙ ap (λ i. drop i output) k)

      same_sets : first rows ≡ none → (p : ℕ) → saved_words * p < length words → (k : ℕ) → k < set_room
          → holds (replaced words output (first rows)) p k ≡ member (saved_set_lem words p) k
      same_sets q p l k m = rw q (reads_saved words (drop (2 * length words) output) p k l (room q).0 m)

      terms : first rows ≡ none → (T : Table) → T.size ≤ set_room
          → (spans : List ℕ) (v : ℕ) → saved_words * (first_position_lem spans v + position_count_lem spans v) ≤ length words
          → (t : Term) → DrawnThen T spans words v t ↔ DrawnFrom T spans (replaced words output (first rows)) v t
      terms q T small spans v inside t = (
        (λ d. record { over = d.over; as_many = d.as_many; symbols = λ k l. at d.over d.as_many k l ∙ d.symbols k l }),
        (λ d. record { over = d.over; as_many = d.as_many; symbols = λ k l. inv (at d.over d.as_many k l) ∙ d.symbols k l }),
      )
        where
          at : Over T t → length (enc t) ≡ position_count_lem spans v → (k : ℕ) → k < length (enc t)
              → holds (replaced words output (first rows)) (first_position_lem spans v + k) (get_or (enc t) k 0) ≡ member (saved_set_lem words (first_position_lem spans v + k)) (get_or (enc t) k 0)
          at o n k l =
              same_sets q (first_position_lem spans v + k) (omega arith) (get_or (enc t) k 0) (omega (arith, get_d_any (enc t) k 0 T.size l, over-at T t o k l))

      long : (o : Option Refusal) → first rows ≡ o → length (replaced words output o) ≡ length output
      long none e =
          omega (arith, length-append (widened words) (drop (2 * length words) output), length-drop (2 * length words) output, twice_as_many words (room e).0, (room e).1)
      long (just r) e = refl
