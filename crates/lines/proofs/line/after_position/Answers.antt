-- The next position, or else the next variable.
use borrow.Author.Tests.{lt-ltb, le-ltb}
use Prim.Native.Nat.{◌+◌}
use native.Mathlib.Omega.{arith}
use Rattle.meaning.specs.Buffers.{position_count_lem}
use Rattle.lines.specs.Lines.{after_position_lem}
use Rattle.lines.proofs.line.after_position.Goals as goal

pub returns-then-k-positions : goal.returns-then-k-positions
unfolding after_position_lem
returns-then-k-positions c = rw (lt-ltb (c.args.k + 1) (position_count_lem c.args.answer.spans.now c.args.v) (omega arith))

pub returns-else-k-positions : goal.returns-else-k-positions
unfolding after_position_lem
returns-else-k-positions c = rw (le-ltb (c.args.k + 1) (position_count_lem c.args.answer.spans.now c.args.v) (omega arith)) c.seek.ensures
