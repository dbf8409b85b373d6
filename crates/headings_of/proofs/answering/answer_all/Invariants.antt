-- What each turn of the loop keeps.
use mathlib.Core.Path.{◌≡◌}
use lib.ListN.{length}
use Rattle.std.specs.Prelude.{Ok}
use Rattle.known_strings.specs.Lent.{listed}
use Rattle.headings_of.specs.Turns.{TurnsBy}
use Rattle.headings_of.proofs.answering.answer_all.Given as goal

abbrev pub invariant-loop-k : goal.invariant-loop-k
invariant-loop-k l =
    (length l.buffer ≡ length l.initial.buffer) × (length l.out ≡ length l.initial.out)
    × TurnsBy l.list.heading l.list.absent (listed l.list.known) l.k l.buffer l.initial.out (Ok l.turn) l.out
