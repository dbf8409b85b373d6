-- A list of notes, and the list of numbers that the theory has for it.
use Rattle.std.specs.Prelude.{List, [], ◌∷◌, ℕ, get_or}
use Rattle.facing.specs.declared.notes.Note.{Note}

-- the note with this index
abbrev pub note_at : List Note → ℕ → Note
note_at notes o = get_or notes o (record { start = 0; size = 0 })

-- the notes as numbers: two for each, one behind the other
unfoldable pub numbers_of : List Note → List ℕ
numbers_of [] = []
numbers_of (note ∷ notes) = note.start ∷ note.size ∷ numbers_of notes
