-- As many zeros as are repeated.
use mathlib.Core.Path.{sym}
use Prim.Native.Nat.{ℕ}
use lib.ListN.{length-replicate}
use Rattle.headings_of.specs.Rooms.{input_room}
use Rattle.headings_of.proofs.rooms.record_buffer.Goals as goal

pub returns : goal.returns
returns c = sym (length-replicate {A = ℕ} input_room 0)
