-- Each line that is there is an entry more; the first that is not is told.
use Rattle.std.proofs.Common.{◌≡◌, ◌+◌, ◌-◌, length, arith, rules}
use Rattle.std.proofs.lemmas.Result.{err_from_is_err_and}
use borrow.Rule.Slice.PartMut.{put_mid}
use Rattle.meaning.specs.Over.{over}
use Rattle.text.proofs.Puts.{over_part}
use Rattle.marc.specs.ListFile.{at_first}
use Rattle.list_file.specs.Lines.{Strings}
use Rattle.list_file.proofs.Growing.{growing_first, room_left, growing_next, growing_bad}
use Rattle.list_file.proofs.gathering.gather_list.Goals as goal
use Rattle.list_file.proofs.gathering.gather_list.Goals.{In_ok-line}

-- the line that is there
line : (c : In_ok-line) → let l = c.in_ok-line.line in Strings c.loop-rest.rest.now l.number l.string.now l.rest.now
line c = rw c.in_ok-line.ensures.ok_part at c.next_line.ensures

pub returns-in_err-heading : goal.returns-in_err-heading
returns-in_err-heading c =
    let none = rw c.in_err-heading.ensures.ok_part at c.first_line.ensures in
    let told = rw c.in_err-heading.ensures.ok_part at c.in_err-heading.ensures.value in
    let number : c.in_err-heading.field-0.0 ≡ 1 = cc in
    let p = err_from_is_err_and c.from_residual.result c.from_residual.ensures.1 in
    rw (p.1, p.2, number) (at_first none)

pub loop-rest-init : goal.loop-rest-init
loop-rest-init c = growing_first _ _ _ _ _ _ _ (rw c.in_ok-heading.ensures.ok_part at c.first_line.ensures)

pub returns-in_err-line : goal.returns-in_err-line
returns-in_err-line c =
    let none = rw c.in_err-line.ensures.ok_part at c.next_line.ensures in
    let told = rw c.in_err-line.ensures.ok_part at c.in_err-line.ensures.value in
    let number : c.in_err-line.field-0.0 ≡ c.loop-rest.n + 2 = cc in
    let p = err_from_is_err_and c.from_residual-in_err-line.result c.from_residual-in_err-line.ensures.1 in
    rw (p.1, p.2, number) (growing_bad _ _ _ _ _ _ _ _ _ c.loop-rest.invariant (search rules) none)

pub loop-rest-preserved : goal.loop-rest-preserved
loop-rest-preserved c =
    let string = c.in_ok-line.line.string.now in
    let used = c.loop-rest.used in
    let here = line (goal.at.loop-rest-preserved c).In_ok-line in
    let room = room_left _ _ _ _ _ _ _ _ _ c.loop-rest.invariant _ _ _ here in
    let laid : put_mid used (used + length string - used) c.loop-rest.text c.copy_from_slice.new.self ≡ over c.loop-rest.text used string =
    over_part used (used + length string - used) c.loop-rest.text c.copy_from_slice.new.self string c.copy_from_slice.ensures.after (omega arith) in
    rw laid (growing_next _ _ _ _ _ _ _ _ _ c.loop-rest.invariant _ _ _ here (omega arith) (omega (arith, room.1)) (omega (arith, room.1)))
