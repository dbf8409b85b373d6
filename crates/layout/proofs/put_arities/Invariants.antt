-- After i turns the first i arities lie over the output from byte 10 on.
use mathlib.Core.Path.{◌≡◌}
use lib.ListN.{length, take}
use Rattle.meaning.specs.Over.{over}
use Rattle.layout.proofs.put_arities.Given as goal

abbrev pub invariant-loop-i : goal.invariant-loop-i
invariant-loop-i l = (length l.output ≡ length l.initial.output) × (l.output ≡ over l.initial.output 10 (take l.i l.arities))
