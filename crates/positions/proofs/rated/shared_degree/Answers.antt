-- Each member that is met brings its degree; at the end none of the table's symbols is left.
use Rattle.std.proofs.Common.{arith, ◌∙◌, sym}
use Rattle.theory.proofs.Lemmas.{skipped}
use Rattle.meaning.specs.File.{table_in}
use Rattle.meaning.specs.Buffers.{member}
use Rattle.positions.proofs.Members.{fewest_next}
use Rattle.positions.proofs.rated.shared_degree.Goals as goal

pub loop-h-preserved : goal.loop-h-preserved
loop-h-preserved c =
    let a = c.args in
    let loop = c.loop-h in
    let step = c.in-Some.ensures.steps in
    let least = step.2.0 in
    let words = loop.invariant.2 in
    let more = fewest_next (member a.faced.words) ((table_in a.table.file.now).deg a.symbol) loop.h-iterator.from c.in-Some.h least.not_below (rw words at least.is) (rw words at least.none) in
    let least_is = loop.invariant.5 in
    (tt, tt, step.0 ∙ words, step.1 ∙ loop.invariant.3, omega (arith, least.below), rw step.2.1 (omega (arith, more, c.min-least.ensures, c.degree_in_row.ensures)))

pub returns : goal.returns
returns c =
    let t = c.args.table in
    let loop = c.loop-h in
    let none = rw (loop.invariant.2, loop.invariant.3, t.symbols_are) at c.in-None.ensures.steps.2 in
    loop.invariant.5 ∙ sym (skipped (member c.args.faced.words) ((table_in t.file.now).deg c.args.symbol) loop.h-iterator.from (table_in t.file.now).size (omega (arith, t.symbols_are)) none).0
