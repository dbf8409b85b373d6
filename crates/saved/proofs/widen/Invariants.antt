-- After p turns the sets of the first p positions lie over the output.
use mathlib.Core.Path.{◌≡◌}
use Rattle.meaning.specs.Packing.{through}
use Rattle.meaning.specs.Saved.{widened_set}
use Rattle.meaning.specs.Over.{over}
use Rattle.saved.proofs.widen.Given as goal

abbrev pub invariant-loop-position : goal.invariant-loop-position
invariant-loop-position l = l.output ≡ over l.initial.output 0 (through l.position (widened_set l.words))
