-- What each turn of the loop keeps.
use Rattle.std.proofs.Common.{◌<◌, unwrap_or}
use Rattle.std.specs.Option.{IfSome}
use Rattle.marc_input.proofs.Seeking.{Seeking, reads_left}
use Rattle.marc_input.proofs.cutting.fill_to_mark.Given as goal

abbrev pub invariant-loop-rt : goal.invariant-loop-rt
invariant-loop-rt l = Seeking l.initial.buffer l.initial.now l.buffer l.now (unwrap_or l.mark l.now.end) × IfSome l.mark (λ mark. mark < l.now.end)

abbrev pub decreases-loop-rt : goal.decreases-loop-rt
decreases-loop-rt l = reads_left l.now
