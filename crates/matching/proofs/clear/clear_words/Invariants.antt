-- What each turn of the loop keeps.
use Prim.Native.Nat.{◌-◌}
use lib.ListN.{length}
use Rattle.matching.proofs.Clearing.{Clearing}
use Rattle.matching.proofs.clear.clear_words.Given as goal

abbrev pub invariant-loop-at : goal.invariant-loop-at
invariant-loop-at l = Clearing l.initial.out l.from l.out l.at

abbrev pub decreases-loop-at : goal.decreases-loop-at
decreases-loop-at l = length l.initial.out - l.at
