-- The symbols so far are met, whatever table and cut the near sets are of.
use Rattle.std.proofs.Common.{◌≡◌, ◌≤◌, ℕ}
use Rattle.theory.specs.Table.{Table}
use Rattle.positions.specs.Position.{NearTo}
use Rattle.positions.proofs.Sharing.{MetTo}
use Rattle.positions.proofs.shared.shared_by.Given as goal

abbrev pub invariant-loop-h : goal.invariant-loop-h
invariant-loop-h l =
    (goal.iterator-loop-h).can_next l.h-iterator
    × (goal.iterator-loop-h).is_finite l.h-iterator
    × (l.h-iterator.words.now ≡ l.fn.faced.words)
    × (l.h-iterator.end ≡ l.fn.symbols)
    × (l.h-iterator.from ≤ l.fn.symbols)
    × ((T : Table) (cut : ℕ) → T.size ≡ l.fn.symbols → NearTo T cut l.near l.fn.faced.words → MetTo T cut l.fn.faced.words l.h-iterator.from l.set.words l.floor)
