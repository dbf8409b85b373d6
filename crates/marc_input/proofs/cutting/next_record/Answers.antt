-- Line ends are passed over, and what is behind them is cut as it says, or at the next mark.
use Rattle.std.proofs.Common.{arith}
use Rattle.marc.specs.Stream.{coming_in}
use Rattle.marc_input.specs.declared.cutting.Cut.TheVariants.{Ended}
use Rattle.marc_input.proofs.Next.{filled_comes, passed_comes, none_comes}
use Rattle.marc_input.proofs.cutting.next_record.Goals as goal

pub pass_breaks-requires : goal.pass_breaks-requires
pass_breaks-requires c = (c.requires.0, omega (arith, c.requires.1))

pub fill-now-requires : goal.fill-now-requires
fill-now-requires c = (c.in-Some.ensures.read.held, omega (arith, c.pass_breaks.auto.buffer, c.requires.1))

pub returns-then-now : goal.returns-then-now
returns-then-now c =
    let pass = c.pass_breaks in
    let fill = c.fill-now in
    passed_comes _ c.args.rest c.in-Some.begun pass.new.buffer c.in-Some.ensures Ended fill.new.buffer
    (filled_comes coming_in pass.new.buffer c.in-Some.begun 5 fill.result fill.new.buffer fill.ensures Ended fill.new.buffer (none_comes fill.new.buffer fill.result (omega arith)))

pub said_length-requires : goal.said_length-requires
said_length-requires c = (c.fill-now.ensures.read.held, c.fill-now.ensures.enough)

pub cut_as_said-requires : goal.cut_as_said-requires
cut_as_said-requires c =
    let fill = c.fill-now in
    let said = c.in-Some-said_length.ensures in
    record { held = (fill.ensures.read.held, omega (arith, fill.ensures.read.held.0), omega (arith, fill.auto.buffer, c.pass_breaks.auto.buffer, c.requires.1)); le_count = (said.1, said.0, said.2) }

pub returns-in-Some-said_length : goal.returns-in-Some-said_length
returns-in-Some-said_length c =
    let pass = c.pass_breaks in
    let fill = c.fill-now in
    let cut = c.cut_as_said in
    passed_comes _ c.args.rest c.in-Some.begun pass.new.buffer c.in-Some.ensures cut.result cut.new.buffer
    (filled_comes coming_in pass.new.buffer c.in-Some.begun 5 fill.result fill.new.buffer fill.ensures cut.result cut.new.buffer cut.ensures)

pub cut_at_mark-requires : goal.cut_at_mark-requires
cut_at_mark-requires c =
    let fill = c.fill-now in (
      fill.ensures.read.held,
      omega (arith, fill.ensures.read.held.0),
      omega (arith, fill.auto.buffer, c.pass_breaks.auto.buffer, c.requires.1),
      c.in-None.ensures,
    )

pub returns-in-None : goal.returns-in-None
returns-in-None c =
    let pass = c.pass_breaks in
    let fill = c.fill-now in
    let cut = c.cut_at_mark in
    passed_comes _ c.args.rest c.in-Some.begun pass.new.buffer c.in-Some.ensures cut.result cut.new.buffer
    (filled_comes coming_in pass.new.buffer c.in-Some.begun 5 fill.result fill.new.buffer fill.ensures cut.result cut.new.buffer cut.ensures)
