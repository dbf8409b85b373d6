-- What each turn of the loop keeps.
use Rattle.meaning.specs.File.{table_in}
use Rattle.terms.proofs.Degrees.{Left}
use Rattle.terms.proofs.degree.least_degree.Given as goal

abbrev pub invariant-loop-i : goal.invariant-loop-i
invariant-loop-i g l = Left (table_in l.table.file.now) l.one l.two l.i l.least
