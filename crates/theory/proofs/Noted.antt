-- What a loop along both lists writes down for later: where the subterm that faces a variable's node begins in the heading's list, and how
-- many nodes it has, in the note at the node's index. A note once written stays, for later notes are at later indices.
use mathlib.Core.Path.{◌≡◌, refl, subst, ◌∙◌}
use mathlib.Core.List.{List, [], ◌∷◌, ◌++◌}
use Prim.Native.Nat.{ℕ, ◌+◌, ◌*◌, ◌<◌}
use native.Mathlib.Nat.{not-suc-le-zero}
use native.Mathlib.Decide.{dec_lt}
use native.Mathlib.Omega.{arith}
use lib.ListN.{length, get_or, set, take, length-set, length-append, get_or-append}
use lib.Seq.{get_or-append_seam, get_or-set_same, get_or-set_other, get_or-take}
use Rattle.theory.specs.Tree.{Term}
use Rattle.theory.specs.Table.{Table}
use Rattle.theory.specs.Faces.{Face, meets, binds}
use Rattle.theory.specs.Stands.{StandsAt, start_of, size_of, put_note_lem, Gathered, Note, Noted}
use Rattle.theory.proofs.Gathered.{Gathers}

-- ---- one note, written and read

-- two lists have one note at this index
pub record SameNote (notes notes' : List ℕ) (o : ℕ) : Type 0 where
  pub start : start_of notes o ≡ start_of notes' o
  pub size : size_of notes o ≡ size_of notes' o

module _ (notes : List ℕ) (o start size : ℕ) where
  -- LAW: the other notes stay
  pub put_other : (k : ℕ) → (k ≡ o → ⊥) → SameNote (put_note_lem notes o start size) notes k
  put_other k n =
      record {
        start = get_or-set_other (set notes (2 * o) start) (2 * o + 1) (2 * k) size 0 (λ e. omega arith)
            ∙ get_or-set_other notes (2 * o) (2 * k) start 0 (λ e. n (omega arith));
        size = get_or-set_other (set notes (2 * o) start) (2 * o + 1) (2 * k + 1) size 0 (λ e. n (omega arith))
            ∙ get_or-set_other notes (2 * o) (2 * k + 1) start 0 (λ e. omega arith);
      }

  module _ (l : 2 * o + 1 < length notes) where
    -- LAW: the note reads as it was written
    pub put_start : start_of (put_note_lem notes o start size) o ≡ start
    put_start =
        get_or-set_other (set notes (2 * o) start) (2 * o + 1) (2 * o) size 0 (λ e. omega arith)
        ∙ get_or-set_same notes (2 * o) start 0 (omega arith)

    pub put_size : size_of (put_note_lem notes o start size) o ≡ size
    put_size = get_or-set_same (set notes (2 * o) start) (2 * o + 1) size 0 (omega (arith, length-set notes (2 * o) start))

-- ---- along both lists

pub noted_start : (ys notes : List ℕ) → Noted ys notes []
noted_start ys notes = record { note = λ k l. absurd (not-suc-le-zero l) }

module _ {ys notes : List ℕ} {done : List Face} (h : Noted ys notes done) where
  -- one face more, where the notes before it stay
  more : (notes' : List ℕ) (x : Face) → ((k : ℕ) → k < length done → SameNote notes' notes k)
      → Note ys (start_of notes' (length done)) (size_of notes' (length done)) x → Noted ys notes' (done ++ (x ∷ []))
  more notes' x same n = record { note = λ k l. go k l (dec_lt k (length done)) }
    where
      go : (k : ℕ) → k < length (done ++ (x ∷ [])) → Dec (k < length done) → Note ys (start_of notes' k) (size_of notes' k) (get_or (done ++ (x ∷ [])) k (meets 0 0))
      go k l (yes s) = rw (get_or-append done (x ∷ []) (meets 0 0) k s, (same k s).start, (same k s).size) (h.note k s)
      go k l (no s) =
          let q : k ≡ length done = omega (arith, length-append done (x ∷ [])) in
          rw (q, get_or-append_seam done x [] (meets 0 0)) n

  -- LAW: a symbol wants no note
  pub noted_symbol : (f g : ℕ) → Noted ys notes (done ++ (meets f g ∷ []))
  noted_symbol f g = more notes (meets f g) (λ k l. record { start = refl; size = refl }) tt

  -- LAW: a variable's note is written at its node
  pub noted_variable : (i start n v : ℕ) (t : Term) → length done ≡ i → 2 * i + 1 < length notes → StandsAt ys start n t
      → Noted ys (put_note_lem notes i start n) (done ++ (binds v t ∷ []))
  noted_variable i start n v t e l s =
      more (put_note_lem notes i start n) (binds v t)
      (λ k b. put_other notes i start n k (λ q. omega arith))
      (rw (e, put_start notes i start n l, put_size notes i start n l) s)

-- LAW: the note at a variable's node is of the subterm that is gathered there
pub note_of : {T : Table} {ys notes : List ℕ} {fs : List Face} {k v : ℕ} → Noted ys notes fs → (g : Gathers T fs k v)
    → StandsAt ys (start_of notes k) (size_of notes k) g.subterm
note_of {ys = ys} {notes = notes} {k = k} h g = subst (Note ys (start_of notes k) (size_of notes k)) g.here (h.note k g.inside)

-- LAW: the notes of n terms are the first 2 · n numbers, whatever stands behind them
pub gathered_front : {ys notes : List ℕ} {n : ℕ} {ts : List Term} → Gathered ys notes n ts → Gathered ys (take (2 * n) notes) n ts
gathered_front {ys} {notes} {n} {ts} g =
    record {
      count = g.count;
      each = λ o l. rw (get_or-take (2 * n) notes (2 * o) 0 (omega arith), get_or-take (2 * n) notes (2 * o + 1) 0 (omega arith)) (g.each o l);
    }
