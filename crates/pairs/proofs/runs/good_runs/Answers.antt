-- The loop keeps that no pair up to the runs passed is bad: a run whose numbers and arities pass adds 16 good pairs.
use Prim.Native.Nat.{◌+◌, ◌*◌}
use native.Mathlib.Omega.{arith}
use mathlib.Core.Path.{◌≡◌}
use Rattle.table.proofs.Runs.{run_good}
use Rattle.pairs.specs.Reads.{numbers_from}
use Rattle.pairs.proofs.Read.{pair_of_run}
use Rattle.pairs.proofs.runs.good_runs.Goals as goal

pub loop-run-preserved : goal.loop-run-preserved
loop-run-preserved g c =
    let n = c.args.numbers.now in
    let run = c.loop-run.run in
    let reads = g.met.N.PairNumbers.laws n in
    let ordered = c.in_order.ensures c.if-not-in_order.false in
    let alike = c.alike.ensures c.if-not-alike.false in
    let next : 16 * run + 16 ≡ 16 * (run + 1) = omega arith in (
      omega arith,
      rw (← next) (run_good c.args.arities.now _ reads.short (16 * run) (numbers_from (g.N.PairNumbers.number_of n) (48 * run)) (λ j l. pair_of_run _ _ _ reads (16 * run) (48 * run) (omega arith) j (omega arith)) ordered alike c.loop-run.invariant.1),
    )
