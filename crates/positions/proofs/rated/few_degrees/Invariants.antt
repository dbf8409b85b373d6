-- The symbols of the set so far are rated.
use Rattle.std.proofs.Common.{◌≡◌}
use Rattle.meaning.specs.File.{table_in}
use Rattle.positions.proofs.Rating.{RatedTo}
use Rattle.positions.proofs.rated.few_degrees.Given as goal

abbrev pub invariant-loop-s : goal.invariant-loop-s
invariant-loop-s l =
    (goal.iterator-loop-s).can_next l.s-iterator
    × (goal.iterator-loop-s).is_finite l.s-iterator
    × (l.s-iterator.words.now ≡ l.fn.shared.set.words)
    × (l.s-iterator.end ≡ l.table.symbols)
    × RatedTo (table_in l.table.file.now) l.fn.faced.words l.fn.shared.set.words l.fn.before.lowest l.s-iterator.from l.lowest l.best
