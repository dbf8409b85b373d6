-- What each turn of the loop keeps.
use Rattle.marc.specs.Stream.{behind_breaks}
use Rattle.marc_input.proofs.PassedOver.{Passing}
use Rattle.marc_input.proofs.passing.pass_breaks.Given as goal

abbrev pub invariant-loop : goal.invariant-loop
invariant-loop l = Passing behind_breaks l.initial.buffer l.initial.now l.buffer l.now l.counter
