-- What each turn of the loop keeps.
use Prim.Native.Nat.{◌-◌}
use lib.ListN.{length}
use Rattle.meaning.specs.File.{table_in}
use Rattle.terms.proofs.Spans.{ToCome}
use Rattle.terms.proofs.walk.end_from.Given as goal

abbrev pub invariant-loop-to_come : goal.invariant-loop-to_come
invariant-loop-to_come l = ToCome (table_in l.table.file.now) l.list l.at l.to_come l.end

abbrev pub decreases-loop-to_come : goal.decreases-loop-to_come
decreases-loop-to_come l = length l.list - l.end
