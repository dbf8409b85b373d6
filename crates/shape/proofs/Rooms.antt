-- The room of a question that has a header is that of its heading, cut, so that there is a most that any asks for.
use mathlib.Core.Path.{◌≡◌}
use mathlib.Core.List.{List}
use Prim.Native.Nat.{ℕ, ◌*◌, ◌≤◌, ◌<◌, min}
use native.Mathlib.Decide.{dec_lt}
use native.Mathlib.Omega.{arith}
use lib.ListN.{length}
use borrow.Author.Tests.{lt-ltb, le-ltb}
use Rattle.meaning.specs.Limits.{set_words_lem}
use Rattle.meaning.specs.File.{number}
use Rattle.shape.specs.Rooms.{longest, room_for, most_room}

-- LAW: the room of a question that has a header, and of one that has none
pub room_some : (input : List ℕ) → 14 ≤ length input → room_for input ≡ set_words_lem * min (number input 4) longest
unfolding room_for
room_some input l = rw (le-ltb (length input) 14 l)

pub room_none : (input : List ℕ) → length input < 14 → room_for input ≡ 0
unfolding room_for
room_none input l = rw (lt-ltb (length input) 14 l)

-- LAW: there is a most
pub room_most : (input : List ℕ) → room_for input ≤ most_room
room_most input = go (dec_lt (length input) 14)
  where
    go : Dec (length input < 14) → room_for input ≤ most_room
    go (yes l) = omega (arith, room_none input l)
    go (no l) = omega (arith, room_some input (omega arith))
