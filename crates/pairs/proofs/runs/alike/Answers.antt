-- The loop keeps that the pairs passed have symbols of one arity: so have those of the pair whose two symbols were read.
use borrow.Author.Count.{below_more}
use mathlib.Core.Path.{◌≡◌, ap}
use Prim.Native.Nat.{◌+◌, ◌*◌}
use native.Mathlib.Omega.{arith}
use lib.ListN.{get_or}
use Rattle.table.specs.Runs.{pair_of, Alike}
use Rattle.pairs.specs.Reads.{numbers_from}
use Rattle.pairs.proofs.runs.alike.Goals as goal

pub loop-j-preserved : goal.loop-j-preserved
loop-j-preserved g c =
    let a = c.args in
    let j = c.loop-j.j in
    let number_of = g.N.PairNumbers.number_of a.numbers.now in
    let arities = a.arities.now in
    let lower = c.number-lower in
    let higher = c.number-higher in
    let same : get_or arities lower.result 0 ≡ get_or arities higher.result 0 = omega arith in
    let place : number_of (a.at + (3 * (j + 1) + 1)) ≡ number_of (a.at + 3 * (j + 1) + 1) = ap number_of (omega arith) in
    let lower_is = lower.ensures in
    let higher_is = higher.ensures in
    let here : Alike arities (pair_of (numbers_from number_of a.at) (j + 1)) = rw (place, ← lower_is, ← higher_is) same in
    (omega arith, below_more (λ i. Alike arities (pair_of (numbers_from number_of a.at) (i + 1))) j c.loop-j.invariant.1 here)
