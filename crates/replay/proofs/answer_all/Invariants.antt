-- The buffers keep their lengths, and the first k turns are done.
use mathlib.Core.Path.{◌≡◌}
use lib.ListN.{length}
use Rattle.std.specs.Prelude.{Ok}
use Rattle.replay.specs.Turns.{TurnsBy}
use Rattle.replay.proofs.answer_all.Given as goal

abbrev pub invariant-loop-k : goal.invariant-loop-k
invariant-loop-k l =
    (length l.buffer ≡ length l.fn.buffer) × (length l.sets ≡ length l.fn.sets) × (length l.out ≡ length l.fn.out) × TurnsBy l.k l.buffer l.fn.out (Ok l.turn) l.out
