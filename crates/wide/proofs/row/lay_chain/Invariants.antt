-- What each turn of the loop keeps.
use mathlib.Core.Path.{◌≡◌}
use lib.ListN.{length}
use Rattle.wide.proofs.Walking.{ChainFrom}
use Rattle.wide.proofs.row.lay_chain.Given as goal

abbrev pub invariant-loop-next : goal.invariant-loop-next
invariant-loop-next l = (length l.row ≡ length l.initial.row) × ChainFrom l.table.file.now l.a l.next l.row

abbrev pub decreases-loop-next : goal.decreases-loop-next
decreases-loop-next l = l.next
