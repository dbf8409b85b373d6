-- The loop keeps the least degree so far: with what is left of both lists it comes to the degree of the two, and at the end nothing is left.
use native.Mathlib.Omega.{arith}
use Rattle.terms.proofs.Degrees.{node_symbol, all_left, one_less}
use Rattle.terms.proofs.degree.least_degree.Goals as goal

pub loop-i-init : goal.loop-i-init
loop-i-init g c = all_left _ c.args.table.sound _ _ c.requires.headings.0 c.requires.headings.1

pub degree_in_row-here-requires-clause-symbols : goal.degree_in_row-here-requires-clause-symbols
degree_in_row-here-requires-clause-symbols g c =
    let i = c.loop-i.i in
    let symbol = node_symbol c.args.table.file.now c.args.table.sound in
    (symbol c.args.one.now c.requires.headings.0 i (omega arith), symbol c.args.two.now c.requires.headings.1 i (omega arith))

pub loop-i-preserved : goal.loop-i-preserved
loop-i-preserved g c = one_less _ _ _ _ _ c.loop-i.invariant _ _ (omega arith) (omega arith) c.degree_in_row-here.ensures (omega (arith, c.min-least.ensures))
