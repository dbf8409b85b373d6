-- The loop keeps that the row begins from `low` to `high`: a look at a pair moves one of the two.
use Rattle.std.proofs.Common.{arith, ◌+◌, ◌/◌}
use Rattle.wide.proofs.Laying.{read}
use Rattle.wide.proofs.Walking.{starts_here, starts_behind, starts_not_behind}
use Rattle.wide.proofs.row.row_start.Goals as goal

pub returns-then-pair-a : goal.returns-then-pair-a
returns-then-pair-a c =
    let t = c.args.table in
    let loop = c.loop-low in
    let lower = (read t.file.now loop.low (omega (arith, loop.invariant.within)) c.pair.ensures).0 in
    starts_here t.file.now t.sound c.args.a loop.low loop.high loop.invariant (omega arith) (omega arith)

pub loop-low-preserved-then-pair-a-2 : goal.loop-low-preserved-then-pair-a-2
loop-low-preserved-then-pair-a-2 c =
    let t = c.args.table in
    let loop = c.loop-low in
    let middle = (loop.low + loop.high) / 2 in
    let lower = (read t.file.now middle (omega (arith, loop.invariant.within)) c.pair-in-loop-low.ensures).0 in
    starts_behind t.file.now t.sound c.args.a loop.low loop.high loop.invariant middle (omega arith) (omega arith)

pub loop-low-preserved : goal.loop-low-preserved
loop-low-preserved c =
    let t = c.args.table in
    let loop = c.loop-low in
    let middle = (loop.low + loop.high) / 2 in
    let lower = (read t.file.now middle (omega (arith, loop.invariant.within)) c.pair-in-loop-low.ensures).0 in
    starts_not_behind t.file.now t.sound c.args.a loop.low loop.high loop.invariant middle (omega arith) (omega arith)
