-- The digits that were passed are those of the value.
use Rattle.list_file.proofs.Numbers.{Passing}
use Rattle.list_file.proofs.numeral.read_number.Given as goal

abbrev pub invariant-loop-i : goal.invariant-loop-i
invariant-loop-i l = Passing l.bytes l.value l.i
