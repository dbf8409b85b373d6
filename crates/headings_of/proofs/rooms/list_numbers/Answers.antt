-- As many zeros as are repeated.
use mathlib.Core.Path.{sym}
use Prim.Native.Nat.{ℕ}
use lib.ListN.{length-replicate}
use Rattle.headings_of.specs.Rooms.{lines_room}
use Rattle.headings_of.proofs.rooms.list_numbers.Goals as goal

pub returns : goal.returns
returns c = sym (length-replicate {A = ℕ} lines_room 0)
