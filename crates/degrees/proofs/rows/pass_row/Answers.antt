-- The loop keeps that each pair passed is of the row: with the last pair of a stretch all of it is.
use mathlib.Core.Path.{sym, ◌∙◌}
use native.Mathlib.Omega.{arith}
use Rattle.degrees.proofs.Narrowing.{stretch_passed}
use Rattle.degrees.proofs.rows.pass_row.Goals as goal

pub returns-then-lower_of-row : goal.returns-then-lower_of-row
returns-then-lower_of-row c =
    let inv = c.loop-k.invariant in
    record { onward = inv.0; within = inv.1; same = inv.2; stops = λ l e. c.if-lower_of-row.true (c.lower_of.ensures ∙ e) }

pub loop-k-preserved : goal.loop-k-preserved
loop-k-preserved c =
    let t = c.args.table in
    let k = c.loop-k.k in
    let inv = c.loop-k.invariant in
    let passed = stretch_passed t.file.now t.sound c.args.row c.args.first k c.args.stretch c.requires.none_before inv.2 (omega arith) in
    (omega arith, omega (arith, t.pairs_are), passed (omega (arith, t.pairs_are)) (sym c.lower_of.ensures ∙ c.if-lower_of-row.false))
