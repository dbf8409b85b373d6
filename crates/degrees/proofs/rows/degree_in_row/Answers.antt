-- The pair of two symbols, if it is listed, stands in the row of the lower one, so it is found there.
use mathlib.Core.Path.{◌∙◌}
use native.Mathlib.Omega.{arith}
use Rattle.degrees.proofs.Listed.{degree_itself, degree_ordered}
use Rattle.degrees.proofs.Narrowing.{row_between}
use Rattle.degrees.proofs.rows.degree_in_row.Goals as goal

pub returns-then-a-b : goal.returns-then-a-b
returns-then-a-b c = let t = c.args.table in degree_itself t.file.now t.sound c.args.a c.args.b c.requires.symbols.0 c.if-a-b.true

pub listed_between-requires : goal.listed_between-requires
listed_between-requires c =
    let t = c.args.table in
    record { in_order = omega arith; between = rw t.pairs_are (row_between t.file.now t.sound c.args.rows.now c.requires.rows c.min-lower.result c.max.result (omega arith)) }

pub returns : goal.returns
returns c =
    let t = c.args.table in
    c.listed_between.ensures ∙ degree_ordered t.file.now t.sound c.args.a c.args.b _ _ c.min-lower.ensures c.max.ensures
