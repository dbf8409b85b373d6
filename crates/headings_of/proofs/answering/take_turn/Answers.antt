-- What comes next is answered behind what was handed over before it waits.
use Rattle.known_strings.specs.Lent.{listed}
use Rattle.output.proofs.Turning.{prepared_as, ready_by}
use Rattle.headings_of.proofs.Taking.{mark_at_end, turn_taken}
use Rattle.headings_of.proofs.answering.take_turn.Goals as goal

pub returns : goal.returns
returns c =
    let a = c.args in
    let mark = c.unwrap_or-mark.result in
    let by = rw (← c.unwrap_or-mark.ensures) at c.find_mark.ensures.1 in
    let left = c.in_ok-left.left in
    let ready = prepared_as by.unmarked (mark_at_end a.buffer.now a.rest mark c.requires.0 by)
    (ready_by mark a.rest.end a.out.now a.used c.requires.2 c.must_write.result c.must_write.ensures left c.in_ok-left.ensures) in
    let next = c.next_record-cut in
    turn_taken a.list.heading a.list.absent (listed a.list.known) a.k a.buffer.now a.rest _ a.out.now a.used left.written left.standing c.requires.2 ready _ next.result next.ensures c.answer_next.result c.answer_next.ensures
