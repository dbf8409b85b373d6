-- The least of the degrees with the members so far.
use Rattle.std.proofs.Common.{◌≡◌, ◌≤◌}
use Rattle.theory.proofs.Lemmas.{fewest}
use Rattle.meaning.specs.File.{table_in}
use Rattle.meaning.specs.Buffers.{member}
use Rattle.positions.proofs.rated.shared_degree.Given as goal

abbrev pub invariant-loop-h : goal.invariant-loop-h
invariant-loop-h l =
    (goal.iterator-loop-h).can_next l.h-iterator
    × (goal.iterator-loop-h).is_finite l.h-iterator
    × (l.h-iterator.words.now ≡ l.fn.faced.words)
    × (l.h-iterator.end ≡ l.table.symbols)
    × (l.h-iterator.from ≤ l.table.symbols)
    × (l.least ≡ fewest (member l.fn.faced.words) ((table_in l.table.file.now).deg l.symbol) l.h-iterator.from)
