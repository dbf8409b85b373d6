-- Where there is no fault, each number passes in its lane, so the pairs are in order.
use borrow.Author.Tests.{eqb-true}
use native.Mathlib.Omega.{arith}
use Rattle.table.proofs.Runs.{lanes_ordered}
use Rattle.pairs.specs.Reads.{numbers_from}
use Rattle.pairs.proofs.runs.in_order.Goals as goal

pub returns : goal.returns
returns g c passed =
    let a = c.args in
    lanes_ordered a.symbols (numbers_from (g.N.PairNumbers.number_of a.numbers.now) a.at) (λ lane l. c.loop-lane.invariant.1 (eqb-true _ _ passed) lane (omega arith))
