-- What each turn of the loop keeps.
use mathlib.Core.Path.{◌≡◌}
use mathlib.Core.Bool.{true}
use Prim.Native.Nat.{ℕ, ◌+◌, ◌<◌}
use lib.ListN.{length, get_or}
use Rattle.meaning.specs.Limits.{set_words_lem}
use Rattle.facing.specs.Notes.{note_at}
use Rattle.positions.specs.Position.{StandAt}
use Rattle.positions.proofs.faced.faced_at.Given as goal

abbrev pub invariant-loop-note : goal.invariant-loop-note
invariant-loop-note l =
    (length l.words ≡ set_words_lem)
    × StandAt l.heading l.notes l.k l.note-index l.words
    × (l.alone ≡ true → (j : ℕ) → j < l.note-index → get_or l.heading ((note_at l.notes j).start + l.k) 0 ≡ l.first)
