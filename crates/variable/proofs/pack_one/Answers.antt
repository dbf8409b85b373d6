-- The note tells of a part of the heading, whose symbols have their near sets, and what is packed of it is packed of the variable.
use Prim.Native.Nat.{◌+◌, ◌-◌, ◌≤◌}
use native.Mathlib.Omega.{arith}
use lib.ListN.{length}
use Rattle.facing.specs.Notes.{note_at}
use Rattle.variable.proofs.Alone.{part_covers, length_part, one_packed}
use Rattle.variable.proofs.pack_one.Goals as goal

pub pack_alone-requires : goal.pack_alone-requires
pack_alone-requires c =
    let heading = c.args.heading.now in
    let note = note_at c.args.notes.now 0 in
    let size = note.start + note.size - note.start in
    let inside : note.start + size ≤ length heading = omega (arith, c.requires.one_note.1 0 (omega arith)) in
    let part = length_part heading note.start size inside in
    (part_covers heading note.start size inside c.args.near.now c.requires.one_note.2, omega (arith, part, c.requires.notes_in_bounds))

pub returns : goal.returns
returns c = λ T. one_packed T _ _ _ _ _ _ c.requires.one_note.1 c.requires.one_note.0 c.pack_alone.ensures
