-- The numbers are what the symbols share with the members so far.
use Rattle.std.proofs.Common.{◌≡◌, length}
use Rattle.meaning.specs.File.{table_in}
use Rattle.wide.specs.Index.{Chained}
use Rattle.wide.proofs.Sharing.{SharedTo}
use Rattle.wide.proofs.lower_to_shared.Given as goal

abbrev pub invariant-loop-a : goal.invariant-loop-a
invariant-loop-a l =
    (goal.iterator-loop-a).can_next l.a-iterator
    × (goal.iterator-loop-a).is_finite l.a-iterator
    × (l.a-iterator.words.now ≡ l.fn.faced.words)
    × (l.a-iterator.end ≡ l.table.symbols)
    × (length l.least ≡ length l.fn.least)
    × (length l.index ≡ length l.fn.index)
    × SharedTo (table_in l.table.file.now) l.fn.faced.words l.a-iterator.from l.least
    × Chained l.table.file.now l.index
