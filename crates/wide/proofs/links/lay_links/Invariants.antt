-- What each turn of the loop keeps.
use mathlib.Core.Path.{◌≡◌}
use lib.ListN.{length}
use Rattle.degrees.specs.Rows.{Rows}
use Rattle.wide.specs.Index.{Linked}
use Rattle.wide.proofs.links.lay_links.Given as goal

abbrev pub invariant-loop-k : goal.invariant-loop-k
invariant-loop-k l = (length l.index ≡ length l.fn.index) × Rows l.table.file.now l.index × Linked l.table.file.now l.k l.index
