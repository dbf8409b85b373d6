-- What each turn of the loop keeps.

use Rattle.meaning.specs.File.{table_in}
use Rattle.terms.proofs.Levels.{ToRead}
use Rattle.terms.proofs.reading.read.Given as goal

abbrev pub invariant-loop-at : goal.invariant-loop-at
invariant-loop-at l = ToRead (table_in l.table.file.now) l.variables l.list l.outer l.depth l.here l.at
