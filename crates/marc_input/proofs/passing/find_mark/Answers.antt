-- The first mark of the bytes between the two places.
use Rattle.std.proofs.Common.{◌≡◌, ◌-◌, length, arith}
use Rattle.input.specs.Unreads.{unread}
use Rattle.input.proofs.Unused.{length-unread}
use Rattle.marc_input.proofs.Marks.{no_mark_all, mark_found, mark_none}
use Rattle.marc_input.proofs.passing.find_mark.Goals as goal

pub returns-in_err-first_mark : goal.returns-in_err-first_mark
returns-in_err-first_mark c =
    rw c.from_residual.ensures (tt, mark_none c.args.buffer.now c.args.from c.args.to c.requires.0 (no_mark_all _ c.in_err-first_mark.ensures))

pub returns : goal.returns
returns c =
    let found = c.in_ok-first_mark.ensures in
    let long : length (unread c.args.buffer.now c.args.from c.args.to) ≡ c.args.to - c.args.from = length-unread c.args.buffer.now c.args.from c.args.to c.requires.1 in
    (omega (arith, long, found.0), mark_found _ c.args.from c.args.to _ long found.0 found.1 found.2)
