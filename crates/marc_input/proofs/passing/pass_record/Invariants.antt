-- What each turn of the loop keeps.
use Rattle.marc_input.specs.Passing.{behind_mark}
use Rattle.marc_input.proofs.PassedOver.{Passing}
use Rattle.marc_input.proofs.passing.pass_record.Given as goal

abbrev pub invariant-loop : goal.invariant-loop
invariant-loop l = Passing behind_mark l.initial.buffer l.initial.now l.buffer l.now l.counter
