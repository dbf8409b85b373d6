-- The walk goes from the first pair of the row to the first that is not one of it.
use Rattle.std.proofs.Common.{arith, ◌∙◌, sym, length-set}
use mathlib.Core.Logic.{inr}
use Rattle.degrees.proofs.Listed.{pair_symbols}
use Rattle.wide.proofs.Laying.{read}
use Rattle.wide.proofs.Walking.{row_next, row_end}
use Rattle.wide.proofs.row.lay_row.Goals as goal

pub returns-then-pair-a : goal.returns-then-pair-a
returns-then-pair-a c =
    let t = c.args.table in
    let loop = c.loop-k in
    let is = read t.file.now loop.k (omega (arith, t.pairs_are)) c.pair-pair.ensures in
    row_end t.file.now t.sound c.args.a _ _ loop.invariant.1 (inr (λ e. c.if-pair-a.true (is.0 ∙ e)))

pub bounds-row-pair : goal.bounds-row-pair
bounds-row-pair c =
    let t = c.args.table in
    let loop = c.loop-k in
    let is = read t.file.now loop.k (omega (arith, t.pairs_are)) c.pair-pair.ensures in
    omega (arith, is.1, (pair_symbols t.file.now t.sound loop.k (omega (arith, t.pairs_are))).1, loop.invariant.1.laid.room)

pub loop-k-preserved : goal.loop-k-preserved
loop-k-preserved c =
    let t = c.args.table in
    let loop = c.loop-k in
    let is = read t.file.now loop.k (omega (arith, t.pairs_are)) c.pair-pair.ensures in
    let more = row_next t.file.now t.sound c.args.a loop.k loop.row loop.invariant.1 (omega (arith, t.pairs_are)) (sym is.0 ∙ c.if-pair-a.false) in
    (rw length-set loop.invariant.0, rw (is.1, is.2) more)
