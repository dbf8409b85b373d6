-- Each node of the pattern that is the variable adds its note behind those gathered before, and any other adds nothing.
use native.Mathlib.Omega.{arith}
use Rattle.facing.proofs.Gathering.{gathering_same, gathering_other, gathering_end}
use Rattle.facing.proofs.Numbers.{length-numbers, numbers-copy}
use Rattle.facing.proofs.gather.gather.Goals as goal
use Rattle.facing.proofs.gather.gather.Goals.{then-node-wanted, else-node-wanted}

pub loop-i-preserved : goal.loop-i-preserved
loop-i-preserved c =
    let at = c.loop-i in
    elim c.if-node-wanted.branch [
      | then-node-wanted w ↦
          let same = gathering_same _ _ _ at.invariant.2 (omega arith) w.if-node-wanted.true (omega (arith, length-numbers at.own)) in
          (omega arith, omega arith, rw (w.own-is, w.count-is, numbers-copy at.own at.count c.args.notes.now at.i) same)
      | else-node-wanted w ↦ (omega arith, omega arith, rw (w.own-is, w.count-is) (gathering_other _ _ _ at.invariant.2 (omega arith) w.if-node-wanted.false))
    ]

pub returns : goal.returns
returns c = gathering_end _ _ _ c.loop-i.invariant.2 (omega arith)
