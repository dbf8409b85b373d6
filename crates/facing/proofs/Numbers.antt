-- Laws of a list of notes seen as a list of numbers: each note takes two places, so whatever is done to one note is done to its two numbers.
use mathlib.Core.Path.{◌≡◌, refl, ap}
use mathlib.Core.List.{List, [], ◌∷◌}
use Prim.Native.Nat.{ℕ, zero, suc, ◌+◌, ◌*◌, ◌<◌}
use native.Mathlib.Omega.{arith}
use lib.ListN.{length, get_or, set, take}
use Rattle.theory.specs.Tree.{Term, node, ∅}
use Rattle.theory.specs.Stands.{StandsAt, start_of, size_of, put_note_lem, Gathered}
use Rattle.facing.specs.Notes.{note_at, numbers_of}
use Rattle.facing.specs.declared.notes.Note.{Note}

-- LAW: there are twice as many
pub length-numbers : (notes : List Note) → length (numbers_of notes) ≡ 2 * length notes
unfolding numbers_of
length-numbers [] = omega arith
length-numbers (note ∷ notes) = omega (arith, length-numbers notes)

twice : (o : ℕ) → 2 * suc o ≡ suc (suc (2 * o))
twice o = omega arith

after : (o : ℕ) → suc (suc (2 * o)) + 1 ≡ suc (suc (2 * o + 1))
after o = omega arith

-- LAW: where a note's term begins, and how many nodes it has, are the note's fields
pub start_is : (notes : List Note) (o : ℕ) → start_of (numbers_of notes) o ≡ (note_at notes o).start
unfolding numbers_of
start_is [] o = refl
start_is (note ∷ notes) zero = refl
start_is (note ∷ notes) (suc o) = rw (twice o) (start_is notes o)

pub size_is : (notes : List Note) (o : ℕ) → size_of (numbers_of notes) o ≡ (note_at notes o).size
unfolding numbers_of
size_is [] o = refl
size_is (note ∷ notes) zero = refl
size_is (note ∷ notes) (suc o) = rw (twice o, after o) (size_is notes o)

-- LAW: a note written anew
pub numbers-set : (notes : List Note) (o : ℕ) (note : Note) → numbers_of (set notes o note) ≡ put_note_lem (numbers_of notes) o note.start note.size
unfolding numbers_of
numbers-set [] o note = refl
numbers-set (first ∷ notes) zero note = refl
numbers-set (first ∷ notes) (suc o) note = rw (twice o, after o) (ap (λ l. first.start ∷ first.size ∷ l) (numbers-set notes o note))

-- LAW: the first notes
pub numbers-take : (n : ℕ) (notes : List Note) → numbers_of (take n notes) ≡ take (2 * n) (numbers_of notes)
unfolding numbers_of
numbers-take zero notes = refl
numbers-take (suc n) [] = rw (twice n) refl
numbers-take (suc n) (note ∷ notes) = rw (twice n) (ap (λ l. note.start ∷ note.size ∷ l) (numbers-take n notes))

-- LAW: a note copied from another list
pub numbers-copy : (own : List Note) (o : ℕ) (notes : List Note) (i : ℕ)
    → numbers_of (set own o (note_at notes i)) ≡ put_note_lem (numbers_of own) o (start_of (numbers_of notes) i) (size_of (numbers_of notes) i)
numbers-copy own o notes i = rw (start_is notes i, size_is notes i) (numbers-set own o (note_at notes i))

-- LAW: terms that are gathered stand where their notes say
pub gathered_each : (notes : List Note) {list : List ℕ} {n : ℕ} {ts : List Term} → Gathered list (numbers_of notes) n ts → (o : ℕ) → o < n
    → StandsAt list (note_at notes o).start (note_at notes o).size (get_or ts o (node 0 ∅))
gathered_each notes g o l = rw (start_is notes o, size_is notes o) at (g.each o l)
