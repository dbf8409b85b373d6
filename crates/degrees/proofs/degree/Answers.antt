-- A number that is no symbol has degree 0 with every other, a symbol has 1000 with itself, and other two have what is listed for the lower and the
-- higher of them.
use mathlib.Core.Path.{sym, ◌∙◌}
use mathlib.Core.Logic.{inr}
use Prim.Native.Nat.{◌≤◌}
use native.Mathlib.Omega.{arith}
use Rattle.meaning.specs.File.{symbol_count_lem}
use Rattle.meaning.proofs.Degrees.{degree_outside}
use Rattle.table.proofs.Reading.{size_is}
use Rattle.degrees.proofs.Listed.{degree_itself, degree_ordered}
use Rattle.degrees.proofs.degree.Goals as goal

pub returns-then-higher-table : goal.returns-then-higher-table
returns-then-higher-table c =
    let lower = c.min-lower in
    let higher = c.max-higher in
    let t = c.args.table in
    let file = t.file.now in
    let outside : symbol_count_lem file ≤ higher.result = omega (arith, t.symbols_are, size_is file t.sound) in
    let none = degree_outside file t.sound lower.result higher.result (inr outside) in
    sym none ∙ degree_ordered file t.sound c.args.a c.args.b _ _ lower.ensures higher.ensures

pub returns-then-lower-higher : goal.returns-then-lower-higher
returns-then-lower-higher c =
    let t = c.args.table in
    degree_itself t.file.now t.sound c.args.a c.args.b (omega (arith, t.symbols_are)) (omega arith)

pub returns : goal.returns
returns c =
    let t = c.args.table in
    c.listed_between.ensures ∙ degree_ordered t.file.now t.sound c.args.a c.args.b _ _ c.min-lower.ensures c.max-higher.ensures
