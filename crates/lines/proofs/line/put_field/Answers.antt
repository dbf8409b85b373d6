-- At the line's start there is nothing to part the number from.
use native.Mathlib.Omega.{arith}
use borrow.Author.Tests.{eq-eqb, ne_eqb}
use Rattle.text.proofs.Puts.{put_then}
use Rattle.lines.proofs.line.put_field.Goals as goal
use Rattle.lines.proofs.line.put_field.Goals.{then-text-start, else-text-start}

pub returns : goal.returns
returns c =
    let text = c.args.text.now in
    let start = c.args.start in
    let number = c.put_number.ensures in
    elim c.if-text-start.branch [
      | then-text-start w ↦
          let put = rw w.text-is at number in
          (rw (ne_eqb text.used start (λ e. omega arith)) (put_then w.put_byte.ensures put.0), omega (arith, put.1, w.put_byte.ensures.ends))
      | else-text-start w ↦
          let put = rw w.text-is at number in
          (rw (eq-eqb text.used start (omega arith)) put.0, omega (arith, put.1))
    ]
