-- With each turn less is missing of what is left to be passed over.
use mathlib.Core.Path.{refl, ◌∙◌}
use Prim.Native.Nat.{◌-◌}
use native.Mathlib.Omega.{arith}
use Rattle.input.proofs.PassingOver.{PassingOver, passing_first, passing_on, passing_cut, passing_last}
use Rattle.input.proofs.batch.pass_over.Goals as goal
use Rattle.input.proofs.batch.pass_over.Goals.{After-is_empty}

pub loop-left-init : goal.loop-left-init
loop-left-init c = (refl, passing_first c.args.buffer.now c.args.behind c.args.count c.requires.0)

-- what holds once more was read
more_read : (c : After-is_empty) → PassingOver c.args.buffer.now c.args.behind.at c.args.behind.end c.args.count c.read_until-passed.new.buffer c.read_until-passed.result (c.loop-left.left - c.len-left.result)
more_read c =
    let loop = c.loop-left in
    let read = c.read_until-passed in
    rw c.len-left.ensures (passing_on _ _ _ _ loop.buffer loop.invariant.0 loop.passed loop.left loop.invariant.1 (omega arith) c.front.result c.front.ensures.1 read.result read.new.buffer read.ensures)

pub returns-then-is_empty : goal.returns-then-is_empty
returns-then-is_empty c =
    let read = c.read_until-passed in
    let on = more_read (goal.at.returns-then-is_empty c).After-is_empty in
    passing_cut _ _ _ _ read.new.buffer (read.auto.buffer ∙ c.loop-left.invariant.0) read.result (c.loop-left.left - c.len-left.result) on (omega arith) (omega arith)

pub loop-left-preserved : goal.loop-left-preserved
loop-left-preserved c = (c.read_until-passed.auto.buffer ∙ c.loop-left.invariant.0, more_read (goal.at.loop-left-preserved c).After-is_empty)

pub returns : goal.returns
returns c =
    let loop = c.loop-left in
    passing_last _ _ _ _ loop.buffer loop.invariant.0 loop.passed loop.left loop.invariant.1 (omega arith) c.requires.2 c.skip.result c.skip.ensures.0 c.skip.ensures.1
