-- No mark is in what is gone.
use borrow.Author.Rules.{rules}
use mathlib.Core.Path.{◌∙◌}
use Prim.Native.Nat.{◌+◌}
use native.Mathlib.Omega.{arith}
use Rattle.marc_input.specs.Rests.{rest_in}
use Rattle.marc_input.specs.Passing.{behind_mark}
use Rattle.marc_input.proofs.Marks.{behind_none, no_mark_behind, mark_leaves}
use Rattle.marc_input.proofs.PassedOver.{passing_first, passing_fill, passing_on, passing_to, passing_endless, none_behind}
use Rattle.marc_input.proofs.passing.pass_record.Goals as goal

pub loop-init : goal.loop-init
loop-init c = passing_first behind_mark _ c.args.rest c.requires.0

pub fill-now-requires : goal.fill-now-requires
fill-now-requires c = let p = c.loop.invariant in (p.read.held, omega (arith, p.read.same, c.requires.1))

pub shape_of-buffer-then-now : goal.shape_of-buffer-then-now
shape_of-buffer-then-now c = c.fill-now.auto.buffer ∙ c.loop.invariant.read.same

pub returns-then-now : goal.returns-then-now
returns-then-now c =
    let loop = c.loop in
    let fill = c.fill-now in
    let p = passing_fill behind_mark _ c.args.rest loop.buffer loop.now loop.counter loop.invariant 1 fill.result fill.new.buffer fill.ensures in
    passing_to behind_mark _ c.args.rest fill.new.buffer fill.result loop.counter p fill.result.at fill.ensures.read.held.0
    (none_behind loop.buffer loop.now fill.result fill.new.buffer fill.ensures (omega arith) behind_mark behind_none)

pub find_mark-requires : goal.find_mark-requires
find_mark-requires c = c.fill-now.ensures.read.held

pub overflow_add-now : goal.overflow_add-now
overflow_add-now c = let read = c.fill-now.ensures.read in search (rules, read.held)

pub shape_of-buffer-in-Some : goal.shape_of-buffer-in-Some
shape_of-buffer-in-Some c = c.fill-now.auto.buffer ∙ c.loop.invariant.read.same

pub returns-in-Some : goal.returns-in-Some
returns-in-Some c =
    let loop = c.loop in
    let fill = c.fill-now in
    let p = passing_fill behind_mark _ c.args.rest loop.buffer loop.now loop.counter loop.invariant 1 fill.result fill.new.buffer fill.ensures in
    let mark = c.in-Some.mark in
    let found = c.in-Some.ensures in
    passing_to behind_mark _ c.args.rest fill.new.buffer fill.result loop.counter p (mark + 1) (omega (arith, found.0))
    (λ beyond may. mark_leaves fill.new.buffer fill.result.at fill.result.end mark found.1 fill.ensures.read.held.1 found.0 beyond)

pub loop-preserved : goal.loop-preserved
loop-preserved c =
    let loop = c.loop in
    let fill = c.fill-now in
    let p = passing_fill behind_mark _ c.args.rest loop.buffer loop.now loop.counter loop.invariant 1 fill.result fill.new.buffer fill.ensures in
    passing_on behind_mark _ c.args.rest fill.new.buffer fill.result loop.counter p fill.result.end (omega (arith, fill.ensures.read.held.0)) (omega arith)
    (no_mark_behind (rest_in fill.new.buffer fill.result) (c.in_default.ensures.1.unmarked (omega arith)))

pub shape_of-buffer : goal.shape_of-buffer
shape_of-buffer c = c.loop.invariant.read.same

pub returns : goal.returns
returns c =
    let loop = c.loop in
    passing_endless behind_mark _ c.args.rest loop.buffer loop.now loop.counter loop.invariant (omega arith)
