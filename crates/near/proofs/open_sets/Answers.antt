-- After some turns each of the symbols so far is alone in its set. A symbol that comes again is alone in it already, and stays so.
use borrow.Author.Count.{below_more}
use mathlib.Core.Path.{◌∙◌}
use native.Mathlib.Omega.{arith}
use lib.ListN.{get_or}
use Rattle.near.specs.Near.{Opened}
use Rattle.near.proofs.Opening.{still_alone, still_unpaired}
use Rattle.near.proofs.open_sets.Goals as goal

pub loop-symbol-preserved : goal.loop-symbol-preserved
loop-symbol-preserved c =
    let loop = c.loop-symbol in
    let heading = c.args.heading.now in
    let h = get_or heading loop.symbol-index 0 in
    let this = loop.invariant.1 loop.symbol-index (omega arith) in
    let step : Opened h loop.near c.«open».new.near = c.«open».ensures in (
      c.«open».auto.near ∙ loop.invariant.0,
      λ j l. still_unpaired h _ _ step this (get_or heading j 0) (loop.invariant.1 j l),
      below_more _ loop.symbol-index (λ j l. still_alone h _ _ step (get_or heading j 0) (loop.invariant.2 j l)) (step.alone this),
    )
