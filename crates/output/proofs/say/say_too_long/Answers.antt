-- A refusal has no variables, so its buffers are empty ones; its line goes behind the title.
use native.Mathlib.Omega.{arith}
use Rattle.meaning.specs.Program.{refused_text}
use Rattle.lines.proofs.Spans.{zeros_spanned}
use Rattle.output.specs.Titles.{title_text}
use Rattle.output.proofs.Titles.{title_short}
use Rattle.output.proofs.Saying.{said_then}
use Rattle.output.proofs.say.say_too_long.Goals as goal

pub invariant_of-answer : goal.invariant_of-answer
invariant_of-answer c = record { spanned = zeros_spanned 128 _ (omega arith) }

pub with_written-requires : goal.with_written-requires
with_written-requires c = omega (arith, c.in_ok-title.ensures.0.0.counted, title_short c.args.k, c.in_ok-refused.ensures.0.counted, c.requires.0, c.well_formed)

pub returns : goal.returns
returns c =
    let title = c.in_ok-title in
    let refused = c.in_ok-refused in
    said_then c.args.out.now c.args.used (title_text c.args.k) (refused_text 12 0) c.say_title.new.out _ c.requires.0 title.title title.ensures.0 refused.refused refused.ensures _ c.with_written.ensures.0 c.with_written.ensures.1
