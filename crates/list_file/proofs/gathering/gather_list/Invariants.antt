-- What each turn of the loop keeps.
use Rattle.std.proofs.Common.{length}
use Rattle.list_file.proofs.Growing.{Growing}
use Rattle.list_file.proofs.gathering.gather_list.Given as goal

abbrev pub invariant-loop-rest : goal.invariant-loop-rest
invariant-loop-rest l =
    Growing l.file l.text l.ends l.numbers l.rest l.heading l.absent l.used l.n

abbrev pub decreases-loop-rest : goal.decreases-loop-rest
decreases-loop-rest l = length l.rest
