-- What was moved to the front stays there, whether the last read brought something or not.
use mathlib.Core.Path.{◌≡◌, ap, ◌∙◌}
use Prim.Native.Nat.{◌-◌}
use native.Mathlib.Omega.{arith}
use lib.ListN.{take}
use Rattle.input.specs.Unreads.{unread}
use Rattle.input.proofs.Unused.{front_on}
use Rattle.input.proofs.Kept.{more_read}
use Rattle.input.proofs.reading.read_until.Goals as goal
use Rattle.input.proofs.reading.read_until.Goals.{else-loop-read-test, then-loop-read-test+then-more-read}

pub loop-read-preserved : goal.loop-read-preserved
loop-read-preserved c =
    let loop = c.loop-read in
    let read = c.read_more-more in (
      read.auto.buffer ∙ loop.invariant.0,
      omega (arith, read.ensures.1, read.auto.buffer),
      omega (arith, read.ensures.0, loop.invariant.2),
      front_on _ loop.read loop.buffer read.new.buffer loop.invariant.2 read.ensures.2 ∙ loop.invariant.3,
    )

pub returns : goal.returns
returns c =
    let kept = c.args.kept in
    let loop = c.loop-read in
    let stays : take (kept.end - kept.at) c.loop-read-test.buffer ≡ unread c.args.buffer.now kept.at kept.end =
    elim c.loop-read-test.branch [
      | else-loop-read-test w ↦ ap (take (kept.end - kept.at)) w.buffer-is ∙ loop.invariant.3
      | then-loop-read-test+then-more-read w ↦
          ap (take (kept.end - kept.at)) w.buffer-is
          ∙ front_on _ loop.read loop.buffer w.read_more-more.new.buffer loop.invariant.2 w.read_more-more.ensures.2 ∙ loop.invariant.3
    ] in
    more_read c.args.buffer.now kept.at kept.end c.args.wanted c.front.result loop.read c.loop-read-test.buffer c.front.ensures.0 c.front.ensures.1
    stays loop.invariant.2 (omega (arith, loop.invariant.0, loop.invariant.1)) (omega arith)
