-- What was handed over, what stands and what is still to come is the whole text; each time the buffer is full or the text is over, so that less is
-- left after each piece.
use mathlib.Core.Path.{refl, ◌∙◌}
use Prim.Native.Nat.{◌≤◌}
use native.Mathlib.Omega.{arith}
use borrow.Author.Rules.{rules}
use lib.ListN.{length}
use Rattle.lines.specs.Lines.{line_room}
use Rattle.lines.proofs.Turns.{fill_less}
use Rattle.output.specs.declared.pending.Pending.{Pending}
use Rattle.output.proofs.Saying.{said_err}
use Rattle.output.proofs.Going.{going_none, going_more, going_over, going_failed, going_count}
use Rattle.output.proofs.pending.put_answer.Goals as goal

pub loop-next-init : goal.loop-next-init
loop-next-init c = let a = c.args.answer in going_none a.outcome a.spans.now a.sets.now c.fill-next.ensures.on

pub returns-in_err-full : goal.returns-in_err-full
returns-in_err-full c =
    let a = c.args.answer in
    let loop = c.loop-next in
    said_err c.args.out.now c.args.used _ c.from_residual.result _ c.from_residual.ensures.0
    (going_failed a.outcome a.spans.now a.sets.now _ c.fill-next.new.text c.fill-next.result c.fill-next.ensures loop.written loop.next loop.text loop.invariant c.in-Some.cursor c.in-Some.is)

pub overflow_add-written : goal.overflow_add-written
overflow_add-written c =
    let a = c.args.answer in
    let loop = c.loop-next in
    let few = going_count a.outcome a.spans.now a.sets.now _ c.fill-next.new.text c.fill-next.result c.fill-next.ensures loop.written loop.next loop.text loop.invariant a.spanned c.requires.few_sets in
    record { fits = omega (arith, few, c.in_ok-full.ensures.0, c.requires.used_in_bounds.0, c.well_formed) }

pub loop-next-smaller : goal.loop-next-smaller
loop-next-smaller c =
    let a = c.args.answer in
    let loop = c.loop-next in
    let room : line_room ≤ length loop.text.buffer.now = omega (arith, c.requires.used_in_bounds.1, c.fill-next.ensures.put.room, loop.invariant.passed.same) in
    rw c.in-Some.is (fill_less a.outcome a.spans.now a.sets.now c.in-Some.cursor _ c.fill-next-in-Some.result c.fill-next-in-Some.new.text c.fill-next-in-Some.ensures c.in_ok-full.ensures.1 (rw c.in-Some.is at loop.invariant.on) room)

pub loop-next-preserved : goal.loop-next-preserved
loop-next-preserved c =
    let a = c.args.answer in
    let loop = c.loop-next in
    let gone = c.in_ok-full.ensures in
    rw gone.0 (going_more a.outcome a.spans.now a.sets.now (rw c.in-Some.is at loop.invariant) _ refl refl gone.1 c.fill-next-in-Some.result c.fill-next-in-Some.new.text c.fill-next-in-Some.ensures)

pub returns : goal.returns
returns c =
    let a = c.args.answer in
    let loop = c.loop-next in
    let same = loop.invariant.same_buffer ∙ c.fill-next.ensures.put.same_buffer in
    let said : Pending = record { written = loop.written; standing = loop.text.used } in
    going_over a.outcome a.spans.now a.sets.now _ c.fill-next.new.text c.fill-next.result c.fill-next.ensures loop.written loop.next loop.text loop.invariant c.in_default.is said refl refl (search (rules, same))
