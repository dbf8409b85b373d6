-- Before each turn the list is right, and no row goes on from the pairs passed to those that come. So the row of the pair at hand stands where it is
-- found to, and its range may be narrowed to that.
use mathlib.Core.Path.{ap}
use Prim.Native.Nat.{◌-◌, ◌<◌}
use native.Mathlib.Omega.{arith}
use lib.ListN.{length-set}
use Rattle.meaning.specs.File.{pair_count_lem}
use Rattle.degrees.proofs.Listed.{pair_symbols}
use Rattle.degrees.proofs.Narrowing.{laid_again, none_before, narrowed, parted_again, row_stands}
use Rattle.degrees.proofs.rows.lay_rows.Goals as goal

pub pass_row-near-requires : goal.pass_row-near-requires
pass_row-near-requires c =
    let t = c.args.table in
    record { within = (omega (arith, t.pairs_are), omega arith); none_before = none_before t.file.now t.sound c.loop-k.k _ c.loop-k.k c.lower_of-row.ensures (omega arith) }

pub pass_row-end-requires : goal.pass_row-end-requires
pass_row-end-requires c =
    let t = c.args.table in
    let passed = c.pass_row-near.ensures in
    record { within = (passed.within, omega arith); none_before = none_before t.file.now t.sound c.loop-k.k _ c.pass_row-near.result c.lower_of-row.ensures passed.onward }

pub bounds-rows-row : goal.bounds-rows-row
bounds-rows-row c =
    let t = c.args.table in
    omega (arith, (pair_symbols t.file.now t.sound c.loop-k.k (omega (arith, t.pairs_are))).0, c.lower_of-row.ensures, c.loop-k.invariant.2.rows.room)

pub bounds-rows-row-in-loop-k : goal.bounds-rows-row-in-loop-k
bounds-rows-row-in-loop-k c =
    let t = c.args.table in
    simp length-set (omega (arith, (pair_symbols t.file.now t.sound c.loop-k.k (omega (arith, t.pairs_are))).0, c.lower_of-row.ensures, c.loop-k.invariant.2.rows.room))

pub loop-k-preserved : goal.loop-k-preserved
loop-k-preserved c =
    let t = c.args.table in
    let file = t.file.now in
    let loop = c.loop-k in
    let is = c.lower_of-row.ensures in
    let p = c.pass_row-near.ensures in
    let q = c.pass_row-end.ensures in
    let below : loop.k < pair_count_lem t.file.now = omega (arith, t.pairs_are) in
    let stands = row_stands file t.sound loop.k _ _ _ _ below is loop.invariant.3 p q in (
      q.within,
      simp length-set loop.invariant.1,
      laid_again loop.invariant.2 (narrowed file loop.rows _ _ _ _ loop.invariant.2.rows stands (ap (λ n. n - c.pass_row-end.result) t.pairs_are)),
      parted_again file t.sound loop.k _ _ _ _ below is loop.invariant.3 p q,
    )
