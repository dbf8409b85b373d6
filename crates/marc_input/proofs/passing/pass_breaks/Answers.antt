-- Only line ends are gone.
use borrow.Author.Rules.{rules}
use mathlib.Core.Path.{sym, ◌∙◌}
use Prim.Native.Nat.{◌+◌, ◌<◌}
use native.Mathlib.Omega.{arith}
use Rattle.marc.specs.Stream.{behind_breaks}
use Rattle.marc_input.proofs.PassedOver.{passing_first, passing_fill, passing_on, passing_to, passing_endless, none_behind, no_break_none, break_passes, break_stops}
use Rattle.marc_input.proofs.passing.pass_breaks.Goals as goal
use Rattle.marc_input.proofs.passing.pass_breaks.Goals.{then-at-now-via-then-at-now, then-at-now-via-else-at-now+then-not-is_break}

pub loop-init : goal.loop-init
loop-init c = passing_first behind_breaks _ c.args.rest c.requires.0

pub fill-now-requires : goal.fill-now-requires
fill-now-requires c = let p = c.loop.invariant in (p.read.held, omega (arith, p.read.same, c.requires.1))

pub shape_of-buffer-then-at-now : goal.shape_of-buffer-then-at-now
shape_of-buffer-then-at-now c = c.fill-now.auto.buffer ∙ c.loop.invariant.read.same

pub returns-then-at-now : goal.returns-then-at-now
returns-then-at-now c =
    let loop = c.loop in
    let fill = c.fill-now in
    let p = passing_fill behind_breaks _ c.args.rest loop.buffer loop.now loop.counter loop.invariant 1 fill.result fill.new.buffer fill.ensures in
    passing_to behind_breaks _ c.args.rest fill.new.buffer fill.result loop.counter p fill.result.at fill.ensures.read.held.0
    (elim c.then-at-now.branch [
      | then-at-now-via-then-at-now w ↦ none_behind loop.buffer loop.now fill.result fill.new.buffer fill.ensures (omega arith) behind_breaks no_break_none
      | then-at-now-via-else-at-now+then-not-is_break w ↦ λ beyond may. break_stops fill.new.buffer fill.result.at fill.result.end (omega (arith, fill.ensures.read.held.0)) fill.ensures.read.held.1
          (sym w.is_break.ensures ∙ w.if-not-is_break.true) beyond
    ])

pub bounds-buffer-at : goal.bounds-buffer-at
bounds-buffer-at c = let read = c.fill-now.ensures.read in omega (arith, read.held)

pub overflow_add-now : goal.overflow_add-now
overflow_add-now c = let read = c.fill-now.ensures.read in search (rules, read.held)

pub loop-preserved : goal.loop-preserved
loop-preserved c =
    let loop = c.loop in
    let fill = c.fill-now in
    let p = passing_fill behind_breaks _ c.args.rest loop.buffer loop.now loop.counter loop.invariant 1 fill.result fill.new.buffer fill.ensures in
    let inside : fill.result.at < fill.result.end = omega (arith, fill.ensures.read.held.0) in
    passing_on behind_breaks _ c.args.rest fill.new.buffer fill.result loop.counter p (fill.result.at + 1) (omega arith) (omega arith)
    (break_passes fill.new.buffer fill.result.at (omega (arith, fill.ensures.read.held.1)) (sym c.is_break.ensures ∙ c.if-not-is_break.false))

pub shape_of-buffer : goal.shape_of-buffer
shape_of-buffer c = c.loop.invariant.read.same

pub returns : goal.returns
returns c =
    let loop = c.loop in
    passing_endless behind_breaks _ c.args.rest loop.buffer loop.now loop.counter loop.invariant (omega arith)
