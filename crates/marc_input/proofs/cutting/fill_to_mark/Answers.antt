-- There is no mark in the bytes before those that were read last.
use borrow.Author.Rules.{rules}
use native.Mathlib.Omega.{arith}
use borrow.Author.Tests.{not-true, not-false}
use Rattle.marc_input.proofs.Following.{filled_more}
use Rattle.marc_input.proofs.Seeking.{none_found, some_found, fewer_left, seeking_first, seeking_on, sought_there, sought_over, sought_many}
use Rattle.marc_input.proofs.cutting.fill_to_mark.Goals as goal

pub find_mark-mark-requires : goal.find_mark-mark-requires
find_mark-mark-requires c = c.requires.0

pub loop-rt-init : goal.loop-rt-init
loop-rt-init c = (seeking_first _ c.args.rest c.requires.0 _ c.find_mark-mark.ensures.1, c.find_mark-mark.ensures.0)

pub overflow_sub-now : goal.overflow_sub-now
overflow_sub-now c = c.loop-rt.invariant.0.read.held.0

pub overflow_sub-seen : goal.overflow_sub-seen
overflow_sub-seen c = c.loop-rt.invariant.0.read.held.0

pub overflow_add-seen : goal.overflow_add-seen
overflow_add-seen c = let p = c.loop-rt.invariant.0 in search (rules, p.read.held)

pub fill-now-requires : goal.fill-now-requires
fill-now-requires c =
    let loop = c.loop-rt in
    let room = c.requires.1 in
    (loop.invariant.0.read.held, omega (arith, loop.invariant.0.read.same, room, c.if-now-le-MOST_BYTES.true))

pub overflow_add-now : goal.overflow_add-now
overflow_add-now c =
    let loop = c.loop-rt in
    let fill = c.fill-now in
    let enough = filled_more loop.buffer loop.now _ fill.result fill.new.buffer fill.ensures loop.invariant.0.read.held in
    search (rules, enough, fill.ensures.read.held)

pub find_mark-mark-requires-in-loop-rt : goal.find_mark-mark-requires-in-loop-rt
find_mark-mark-requires-in-loop-rt c =
    let loop = c.loop-rt in
    let fill = c.fill-now in
    let enough = filled_more loop.buffer loop.now _ fill.result fill.new.buffer fill.ensures loop.invariant.0.read.held in
    (omega (arith, enough, fill.ensures.read.held), fill.ensures.read.held.1)

pub loop-rt-smaller : goal.loop-rt-smaller
loop-rt-smaller c =
    let loop = c.loop-rt in
    let fill = c.fill-now in
    fewer_left loop.buffer loop.now fill.result fill.new.buffer
    (not-true _ c.if-not-now.true)
    (omega (arith, c.if-now-le-MOST_BYTES.true))
    fill.ensures

pub loop-rt-preserved : goal.loop-rt-preserved
loop-rt-preserved c =
    let loop = c.loop-rt in
    let fill = c.fill-now in
    let none = none_found loop.mark loop.now.end c.loop-rt-test.ensures in
    (seeking_on _ c.args.rest loop.buffer loop.now _ loop.invariant.0 none _ fill.result fill.new.buffer fill.ensures _ c.find_mark-mark-in-loop-rt.ensures.1, c.find_mark-mark-in-loop-rt.ensures.0)

pub shape_of-buffer-else-now-le-MOST_BYTES : goal.shape_of-buffer-else-now-le-MOST_BYTES
shape_of-buffer-else-now-le-MOST_BYTES c = c.loop-rt.invariant.0.read.same

pub returns-else-now-le-MOST_BYTES : goal.returns-else-now-le-MOST_BYTES
returns-else-now-le-MOST_BYTES c =
    let loop = c.loop-rt in
    sought_many _ c.args.rest loop.buffer loop.now _ loop.invariant.0 (omega (arith, c.if-now-le-MOST_BYTES.false))

pub shape_of-buffer-else-not-now : goal.shape_of-buffer-else-not-now
shape_of-buffer-else-not-now c = c.loop-rt.invariant.0.read.same

pub returns-else-not-now : goal.returns-else-not-now
returns-else-not-now c =
    let loop = c.loop-rt in
    sought_over _ c.args.rest loop.buffer loop.now _ loop.invariant.0 (not-false _ c.if-not-now.false)

pub shape_of-buffer-after-loop-rt : goal.shape_of-buffer-after-loop-rt
shape_of-buffer-after-loop-rt c = c.loop-rt.invariant.0.read.same

pub returns-after-loop-rt : goal.returns-after-loop-rt
returns-after-loop-rt c =
    let loop = c.loop-rt in
    sought_there _ c.args.rest loop.buffer loop.now _ loop.invariant.0 (some_found loop.mark loop.now.end c.loop-rt-test.ensures loop.invariant.1)
