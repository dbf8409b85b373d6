-- The mark that was found, or that none is there.
use Rattle.std.proofs.Common.{refl}
use Rattle.marc_input.proofs.Ends.{cut_marked, cut_ended, cut_passed, cut_endless}
use Rattle.marc_input.proofs.cutting.cut_at_mark.Goals as goal

pub returns-in-Some : goal.returns-in-Some
returns-in-Some c =
    let fill = c.fill_to_mark-now in
    let found = c.in-Some.ensures in
    cut_marked _ c.args.rest c.requires.1 c.requires.0 c.requires.3 fill.result fill.new.buffer fill.ensures c.in-Some.mark found.1 found.0

pub returns-then-now : goal.returns-then-now
returns-then-now c =
    let fill = c.fill_to_mark-now in
    cut_ended _ c.args.rest c.requires.1 c.requires.0 c.requires.3 fill.result fill.new.buffer fill.ensures fill.result.end c.in_default.ensures.1 refl c.if-now.true

pub returns-in-Some-pass_record : goal.returns-in-Some-pass_record
returns-in-Some-pass_record c =
    let fill = c.fill_to_mark-now in
    cut_passed _ c.args.rest c.requires.1 c.requires.0 c.requires.3 fill.result fill.new.buffer fill.ensures fill.result.end c.in_default.ensures.1 refl c.if-now.false
    c.in-Some-pass_record.left c.pass_record.new.buffer c.in-Some-pass_record.ensures

pub returns-in-None : goal.returns-in-None
returns-in-None c =
    let fill = c.fill_to_mark-now in
    cut_endless _ c.args.rest c.requires.1 c.requires.0 c.requires.3 fill.result fill.new.buffer fill.ensures fill.result.end c.in_default.ensures.1 refl c.pass_record.new.buffer c.in-None.ensures
