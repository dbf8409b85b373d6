-- After k turns the numbers of the first k records lie over the list.
use Rattle.std.proofs.Common.{◌≡◌, take}
use Rattle.meaning.specs.File.{numbers_of_lem}
use Rattle.meaning.specs.Over.{over}
use Rattle.records.specs.Records.{listed}
use Rattle.records.proofs.copy_records.Given as goal

abbrev pub invariant-loop-k : goal.invariant-loop-k
invariant-loop-k l = l.numbers ≡ over l.initial.numbers 0 (numbers_of_lem (take l.k (listed l.pairs)))
