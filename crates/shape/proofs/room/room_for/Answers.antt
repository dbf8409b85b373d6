-- The header, where there is one, says how many nodes the heading has.
use mathlib.Core.Path.{sym}
use native.Mathlib.Omega.{arith}
use Rattle.shape.proofs.Rooms.{room_some, room_none}
use Rattle.shape.proofs.room.room_for.Goals as goal

pub returns-then-input-lt14 : goal.returns-then-input-lt14
returns-then-input-lt14 c = sym (room_none _ (omega arith))

pub returns : goal.returns
returns c = rw (c.min.ensures, c.number_at.ensures) (sym (room_some c.args.input.now (omega arith)))
