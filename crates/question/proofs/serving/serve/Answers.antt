-- The room that the question asks for is no more than there is.
use mathlib.Core.Path.{sym}
use Prim.Native.Nat.{◌≤◌}
use native.Mathlib.Omega.{arith}
use lib.ListN.{length}
use lib.Seq.{length-take-le}
use Rattle.shape.proofs.Rooms.{room_most}
use Rattle.question.proofs.serving.serve.Goals as goal
use Rattle.question.proofs.serving.serve.Goals.{After-room_for-room}

room-inside : (c : goal.After-room_for-room) → c.room_for-room.result ≤ length c.args.sets.now
room-inside c = omega (arith, c.room_for-room.ensures, room_most c.args.question.now, c.requires.0)

pub slice_bounds-serve_in-end : goal.slice_bounds-serve_in-end
slice_bounds-serve_in-end c = room-inside (goal.at.slice_bounds-serve_in-end c).After-room_for-room

pub slice_bounds-serve_in-end-2 : goal.slice_bounds-serve_in-end-2
slice_bounds-serve_in-end-2 c = sym (length-take-le _ _ (room-inside (goal.at.slice_bounds-serve_in-end-2 c).After-room_for-room))

pub serve_in-requires : goal.serve_in-requires
serve_in-requires c =
    let long = length-take-le c.room_for-room.result c.args.sets.now (room-inside (goal.at.serve_in-requires c).After-room_for-room) in
    record { question_in_bounds = (omega (arith, c.room_for-room.ensures, long), omega (arith, c.room_for-room.ensures, room_most c.args.question.now, long)); used_in_bounds = (c.requires.1, c.requires.2) }
