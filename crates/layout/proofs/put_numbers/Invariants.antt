-- After i turns the bytes of the first i numbers lie over the output.
use mathlib.Core.Path.{◌≡◌}
use lib.ListN.{take}
use Rattle.meaning.specs.Over.{over}
use Rattle.layout.specs.Bytes.{numbers_bytes}
use Rattle.layout.proofs.put_numbers.Given as goal

abbrev pub invariant-loop-i : goal.invariant-loop-i
invariant-loop-i l = l.output ≡ over l.initial.output l.at (numbers_bytes (take l.i l.numbers))
