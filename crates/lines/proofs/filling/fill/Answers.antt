-- The lines that are put are the front of what was to be written.
use Rattle.lines.proofs.Turns.{begun_line, line_less}
use Rattle.lines.proofs.filling.fill.Goals as goal

pub loop-next-smaller : goal.loop-next-smaller
loop-next-smaller c =
    let a = c.args.answer in
    let put = c.next_line-next in
    rw c.in-Some.is (line_less a.outcome a.spans.now a.sets.now c.in-Some.cursor c.loop-next.text put.result put.new.text (rw c.in-Some.is at c.loop-next.invariant.on) put.ensures)

pub loop-next-preserved : goal.loop-next-preserved
loop-next-preserved c =
    let a = c.args.answer in
    let put = c.next_line-next in
    begun_line a.outcome a.spans.now a.sets.now c.args.first c.args.text.now c.in-Some.cursor c.loop-next.text put.result put.new.text (rw c.in-Some.is at c.loop-next.invariant) put.ensures
