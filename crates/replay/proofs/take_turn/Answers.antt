-- What was read is answered behind what was handed over before it waits.
use mathlib.Core.Path.{◌≡◌}
use Rattle.input.specs.Unreads.{unread}
use Rattle.output.proofs.Turning.{ready_by}
use Rattle.replay.proofs.Turning.{turn_taken}
use Rattle.replay.proofs.take_turn.Goals as goal

pub returns : goal.returns
returns c =
    let a = c.args in
    let must = c.must_write in
    let settled = c.in_ok-settled in
    let next = c.next_question-next in
    let answered = c.answer_next in
    let inside = c.requires.most_room_in_bounds.1 in
    let ready = ready_by a.kept.at a.kept.end a.out.now a.used inside must.result must.ensures settled.settled settled.ensures in
    turn_taken a.k (unread a.buffer.now a.kept.at a.kept.end) (a.kept.at ≡ a.kept.end) _ a.out.now a.used next.result next.ensures.more next.ensures.comes _ _ inside ready answered.result _ answered.ensures
