-- What each turn of the loop keeps.
use mathlib.Core.Path.{◌≡◌}
use lib.ListN.{length}
use Rattle.meaning.specs.File.{table_in}
use Rattle.degrees.specs.Rows.{RowsLaid}
use Rattle.facing.specs.Notes.{numbers_of}
use Rattle.facing.proofs.Passing.{Passing}
use Rattle.facing.proofs.faces.face.Given as goal

abbrev pub invariant-loop-i : goal.invariant-loop-i
invariant-loop-i l =
    (length l.rows ≡ length l.initial.rows) × (length l.notes ≡ length l.initial.notes) × RowsLaid l.table.file.now l.initial.rows l.rows
    × Passing (table_in l.table.file.now) l.cut l.pattern l.heading (numbers_of l.notes) l.least l.at l.i
