-- The first i nodes are the first i numbers.
use mathlib.Core.Path.{◌≡◌}
use lib.ListN.{take}
use Rattle.meaning.specs.Program.{numbers_from}
use Rattle.shape.proofs.nodes.copy_nodes.Given as goal

abbrev pub invariant-loop-i : goal.invariant-loop-i
invariant-loop-i l = take l.i l.node-items ≡ numbers_from l.input l.at l.i
