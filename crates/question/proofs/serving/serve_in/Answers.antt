-- The answer's text goes behind what stands in the buffer.
use native.Mathlib.Omega.{arith}
use Rattle.question.proofs.Served.{served}
use Rattle.question.proofs.serving.serve_in.Goals as goal

pub returns : goal.returns
returns c =
    let a = c.args in
    let found = c.answer-outcome in
    let put = c.put_answer in
    served a.question.now found.result found.new.spans found.new.sets a.out.now a.used put.result put.new.out found.ensures (omega (arith, c.requires.question_in_bounds.1, found.auto.sets)) put.ensures
