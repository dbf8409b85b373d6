-- Where no mark stands in some bytes, the next is as far behind them as it is in what follows; so marks are found byte by byte, or part by part.
use mathlib.Core.Path.{◌≡◌, sym as inv, ap, ◌∙◌}
use mathlib.Core.List.{List, [], ◌∷◌, ◌++◌, append_assoc}
use Prim.Native.Nat.{ℕ, suc, ◌+◌, ◌-◌, ◌≤◌, ◌<◌}
use native.Mathlib.Omega.{arith}
use native.Mathlib.Numerals.{add-one}
use lib.ListN.{length, get_or, take, drop, length-append, take-append-drop}
use lib.Seq.{drop-nil, drop-cons, drop-append-add, drop_at}
use borrow.Author.Tests.{eq-eqb, ne_eqb}
use Rattle.input.specs.Unreads.{unread}
use Rattle.input.proofs.Unused.{length-unread, unread-none, unread_split}
use Rattle.marc_record.proofs.Numbers.{left_suc}
use Rattle.std.proofs.lemmas.List.{length-take-le, get_or-take}
use Rattle.marc.specs.Frame.{record_mark}
use Rattle.marc.specs.Stream.{to_mark}
use Rattle.marc.proofs.Streams.{mark_some}
use Rattle.marc_input.specs.Passing.{NoMark, MarkBy, behind_mark}

-- ---- the bytes from one place to another, in parts

pub unread_parts : (buffer : List ℕ) (at i end : ℕ) → at ≤ i → i ≤ end → unread buffer at end ≡ unread buffer at i ++ unread buffer i end
unread_parts buffer at i end l k =
    let e : at + (i - at) ≡ i = omega arith in
    rw e at (unread_split buffer at (i - at) end (omega arith))

pub unread-first : (buffer : List ℕ) (i end : ℕ) → i < end → end ≤ length buffer → unread buffer i end ≡ get_or buffer i 0 ∷ unread buffer (i + 1) end
unread-first buffer i end l k =
    ap (take (end - i)) (drop-cons buffer i 0 (omega arith) ∙ ap (λ j. get_or buffer i 0 ∷ drop j buffer) (inv (add-one i)))
    ∙ ap (λ n. take n (get_or buffer i 0 ∷ drop (i + 1) buffer)) (left_suc i end l)

pub unread_one : (buffer : List ℕ) (i : ℕ) → i < length buffer → unread buffer i (i + 1) ≡ get_or buffer i 0 ∷ []
unread_one buffer i l = unread-first buffer i (i + 1) (omega arith) (omega arith) ∙ ap (λ s. get_or buffer i 0 ∷ s) (unread-none buffer (i + 1))

-- ---- no mark

pub mark_here : (b : ℕ) (bs : List ℕ) → b ≡ record_mark → to_mark (b ∷ bs) ≡ 1
unfolding to_mark
mark_here b bs e = rw (eq-eqb b record_mark e)

pub no_mark_none : NoMark []
no_mark_none beyond = omega arith

pub no_mark_one : (b : ℕ) → (b ≡ record_mark → ⊥) → NoMark (b ∷ [])
unfolding to_mark
no_mark_one b n beyond = rw (ne_eqb b record_mark n) (omega arith)

pub no_mark_both : (s t : List ℕ) → NoMark s → NoMark t → NoMark (s ++ t)
no_mark_both s t m n beyond = ap to_mark (append_assoc s t beyond) ∙ m (t ++ beyond) ∙ omega (arith, n beyond, length-append s t)

pub no_mark_rest : (s t : List ℕ) → NoMark s → NoMark (s ++ t) → NoMark t
no_mark_rest s t m n beyond = omega (arith, m (t ++ beyond), n beyond, ap to_mark (append_assoc s t beyond), length-append s t)

pub behind_none : behind_mark [] ≡ []
behind_none = drop-nil (to_mark [])

-- LAW: what is behind the next mark is so behind bytes without one too
pub no_mark_behind : (s : List ℕ) → NoMark s → (x : List ℕ) → behind_mark (s ++ x) ≡ behind_mark x
no_mark_behind s m x = rw (m x) (drop-append-add s x (to_mark x))

-- LAW: there is none where none stands at any place
pub no_mark_all : (bytes : List ℕ) → ((k : ℕ) → k < length bytes → get_or bytes k 0 ≡ record_mark → ⊥) → NoMark bytes
no_mark_all [] h = no_mark_none
no_mark_all (b ∷ bs) h = no_mark_both (b ∷ []) bs (no_mark_one b (h 0 (omega arith))) (no_mark_all bs (λ k l. h (suc k) (omega arith)))

-- ---- the first mark

-- LAW: here it is
pub mark_found : (bytes : List ℕ) (from to k : ℕ) → length bytes ≡ to - from → k < length bytes → get_or bytes k 0 ≡ record_mark → ((j : ℕ) → j < k → get_or bytes j 0 ≡ record_mark → ⊥)
    → MarkBy bytes from to (from + k)
mark_found bytes from to k long l e h = record {
  rising = omega arith;
  inside = omega arith;
  marked = λ _ beyond.
      ap (λ s. to_mark (s ++ beyond)) (inv (take-append-drop k bytes) ∙ ap (λ s. take k bytes ++ s) (drop-cons bytes k 0 l))
      ∙ ap to_mark (append_assoc (take k bytes) (get_or bytes k 0 ∷ drop (suc k) bytes) beyond)
      ∙ none (get_or bytes k 0 ∷ (drop (suc k) bytes ++ beyond))
      ∙ omega (arith, mark_here (get_or bytes k 0) (drop (suc k) bytes ++ beyond) e, size);
  unmarked = λ z. absurd (omega arith);
}
  where
    size : length (take k bytes) ≡ k
    size = length-take-le k bytes (omega arith)

    none : NoMark (take k bytes)
    none = no_mark_all (take k bytes) (λ j m f. h j (omega (arith, size)) (inv (get_or-take k bytes j 0 (omega (arith, size))) ∙ f))

-- LAW: there is none
pub mark_none : (buffer : List ℕ) (from to : ℕ) → from ≤ to → NoMark (unread buffer from to) → MarkBy (unread buffer from to) from to to
mark_none buffer from to rising m = record { rising = rising; inside = omega arith; marked = λ l. absurd (omega arith); unmarked = λ _. m }

module _ (bytes : List ℕ) (from to place : ℕ) (m : MarkBy bytes from to place) where
  -- LAW: a mark that is there is seen
  pub mark_there : length bytes ≡ to - from → place < to → NoMark bytes → ⊥
  mark_there many l n = omega (arith, m.marked l (0 ∷ []), n (0 ∷ []), mark_some 0 [], m.rising)

module _ (buffer : List ℕ) (from to place : ℕ) (m : MarkBy (unread buffer from to) from to place) (within : to ≤ length buffer) (l : place < to) where
  pub marked_parts : unread buffer from to ≡ unread buffer from (place + 1) ++ unread buffer (place + 1) to
  marked_parts = unread_parts buffer from (place + 1) to (omega (arith, m.rising)) (omega arith)

  pub marked_length : (beyond : List ℕ) → length (unread buffer from (place + 1)) ≡ to_mark (unread buffer from to ++ beyond)
  marked_length beyond = omega (arith, length-unread buffer from (place + 1) (omega arith), m.marked l beyond, m.rising)

  -- LAW: what is behind the mark that was found
  pub mark_leaves : (beyond : List ℕ) → behind_mark (unread buffer from to ++ beyond) ≡ unread buffer (place + 1) to ++ beyond
  mark_leaves beyond =
      ap (drop (to_mark (unread buffer from to ++ beyond))) (ap (λ s. s ++ beyond) marked_parts ∙ append_assoc (unread buffer from (place + 1)) (unread buffer (place + 1) to) beyond)
      ∙ drop_at (unread buffer from (place + 1)) (unread buffer (place + 1) to ++ beyond) (to_mark (unread buffer from to ++ beyond)) (marked_length beyond)
