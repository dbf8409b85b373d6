-- The bytes that it says are read, and the last of them is looked at.
use mathlib.Core.Path.{sym, ◌∙◌}
use native.Mathlib.Omega.{arith}
use Rattle.marc.specs.Stream.{coming_in}
use Rattle.marc_input.proofs.Following.{filled_more}
use Rattle.marc_input.proofs.Said.{cut_other, cut_there}
use Rattle.marc_input.proofs.Next.{filled_comes}
use Rattle.marc_input.proofs.cutting.cut_as_said.Goals as goal

pub fill-now-requires : goal.fill-now-requires
fill-now-requires c = (c.requires.held.0, omega (arith, c.requires.held, c.requires.le_count))

pub ends_marked-requires : goal.ends_marked-requires
ends_marked-requires c = (c.fill-now.ensures.read.held, omega (arith, c.requires.le_count))

pub shape_of-buffer-then-ends_marked : goal.shape_of-buffer-then-ends_marked
shape_of-buffer-then-ends_marked c = c.fill-now.auto.buffer

pub returns-then-ends_marked : goal.returns-then-ends_marked
returns-then-ends_marked c =
    let fill = c.fill-now in
    cut_there _ c.args.rest c.args.count c.requires.le_count.0 c.requires.le_count.2 fill.result fill.new.buffer fill.ensures
    (sym c.ends_marked.ensures ∙ c.if-ends_marked.true)

pub cut_at_mark-requires : goal.cut_at_mark-requires
cut_at_mark-requires c =
    let fill = c.fill-now in
    let more = filled_more _ c.args.rest _ fill.result fill.new.buffer fill.ensures c.requires.held.0 in (
      fill.ensures.read.held,
      omega (arith, more, c.requires.held.1),
      omega (arith, fill.auto.buffer, c.requires.held.2),
      cut_other _ c.args.rest c.args.count c.requires.le_count.0 c.requires.le_count.2 fill.result fill.new.buffer fill.ensures
          (sym c.ends_marked.ensures ∙ c.if-ends_marked.false),
    )

pub shape_of-buffer : goal.shape_of-buffer
shape_of-buffer c = c.cut_at_mark.auto.buffer ∙ c.fill-now.auto.buffer

pub returns : goal.returns
returns c =
    let fill = c.fill-now in
    let cut = c.cut_at_mark in
    filled_comes coming_in _ c.args.rest c.args.count fill.result fill.new.buffer fill.ensures
    cut.result cut.new.buffer cut.ensures
