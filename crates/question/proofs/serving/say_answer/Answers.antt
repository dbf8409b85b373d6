-- The title is said, and then the answer: one text after the other.
use native.Mathlib.Omega.{arith}
use Rattle.meaning.specs.Program.{output}
use Rattle.output.specs.Titles.{title_text}
use Rattle.output.proofs.Titles.{title_short}
use Rattle.output.proofs.Saying.{said_then}
use Rattle.question.proofs.serving.say_answer.Goals as goal

pub with_written-requires : goal.with_written-requires
with_written-requires c =
    omega (arith, c.in_ok-title.ensures.0.0.counted, title_short c.args.k, c.in_ok-answer.ensures.said.0.counted, c.in_ok-answer.ensures.short, c.requires.1, c.well_formed)

pub returns : goal.returns
returns c =
    let title = c.in_ok-title in
    let answer = c.in_ok-answer in
    said_then c.args.out.now c.args.used (title_text c.args.k) (output c.args.question.now) c.say_title.new.out _ c.requires.1 title.title title.ensures.0 answer.answer answer.ensures.said _ c.with_written.ensures.0 c.with_written.ensures.1
