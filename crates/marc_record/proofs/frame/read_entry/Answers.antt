-- Each early return knows one more of the four tests of an entry.
use borrow.Author.Tests.{lt-ltb, le-ltb, eq-eqb, ne_eqb}
use Rattle.std.proofs.Common.{◌≡◌, Some, None, ◌+◌, length, arith}
use Rattle.std.proofs.Math.Option.{none}
use Rattle.std.proofs.lemmas.Result.{err_from_is_err_and}
use Rattle.marc.specs.Frame.{entry_at, field_length, field_end, entry_fault}
use Rattle.marc_record.proofs.Numbers.{NumberAt, number_stands}
use Rattle.marc_record.proofs.frame.read_entry.Goals as goal
use Rattle.marc_record.proofs.frame.read_entry.Goals.{In_ok-length, In_ok-start}

-- the length, the start were read
length_read : (c : goal.In_ok-length) → NumberAt c.args.bytes.now (entry_at c.args.e + 3) 4 (Some c.in_ok-length.length)
length_read c = number_stands c.args.bytes.now (entry_at c.args.e + 3) 4 _ (omega arith) (omega arith) (Some c.in_ok-length.length) (rw c.in_ok-length.ensures.ok_part at c.number.ensures)

start_read : (c : goal.In_ok-start) → NumberAt c.args.bytes.now (entry_at c.args.e + 7) 5 (Some c.in_ok-start.start)
start_read c = number_stands c.args.bytes.now (entry_at c.args.e + 7) 5 _ (omega arith) (omega arith) (Some c.in_ok-start.start) (rw c.in_ok-start.ensures.ok_part at c.number-2.ensures)

pub returns-in_err-length : goal.returns-in_err-length
returns-in_err-length c =
    let r = c.args.bytes.now in
    let at = entry_at c.args.e + 3 in
    let missed = number_stands r at 4 _ (omega arith) (omega arith) None (rw c.in_err-length.ensures.ok_part at c.number.ensures) in
    let told = rw c.in_err-length.ensures.ok_part at c.in_err-length.ensures.value in
    let place : c.in_err-length.field-0.0 ≡ at = cc in
    let p = err_from_is_err_and c.from_residual.result c.from_residual.ensures.1 in
    rw (p.1, p.2, place, missed)

pub returns-then-length-eq0 : goal.returns-then-length-eq0
returns-then-length-eq0 c =
    let r = c.args.bytes.now in
    let e = c.args.e in
    let long = length_read (goal.at.returns-then-length-eq0 c).In_ok-length in
    rw (long.0, eq-eqb (field_length r e) 0 (omega arith))

pub returns-in_err-start : goal.returns-in_err-start
returns-in_err-start c =
    let r = c.args.bytes.now in
    let e = c.args.e in
    let at = entry_at e + 7 in
    let long = length_read (goal.at.returns-in_err-start c).In_ok-length in
    let missed = number_stands r at 5 _ (omega arith) (omega arith) None (rw c.in_err-start.ensures.ok_part at c.number-2.ensures) in
    let told = rw c.in_err-start.ensures.ok_part at c.in_err-start.ensures.value in
    let place : c.in_err-start.field-0.0 ≡ at = cc in
    let p = err_from_is_err_and c.from_residual-in_err-start.result c.from_residual-in_err-start.ensures.1 in
    rw (p.1, p.2, place, long.0, ne_eqb (field_length r e) 0 (λ e. omega arith), missed)

pub returns-then-end-bytes : goal.returns-then-end-bytes
returns-then-end-bytes c =
    let r = c.args.bytes.now in
    let e = c.args.e in
    let long = length_read (goal.at.returns-then-end-bytes c).In_ok-length in
    let start = start_read (goal.at.returns-then-end-bytes c).In_ok-start in
    rw (long.0, ne_eqb (field_length r e) 0 (λ e. omega arith), start.0, le-ltb (field_end r e) (length r) (omega arith))

pub returns : goal.returns
returns c =
    let r = c.args.bytes.now in
    let e = c.args.e in
    let long = length_read (goal.at.returns c).In_ok-length in
    let start = start_read (goal.at.returns c).In_ok-start in
    let fine : entry_fault r e ≡ none = rw (long.0, ne_eqb (field_length r e) 0 (λ e. omega arith), start.0, lt-ltb (field_end r e) (length r) (omega arith)) in
    (fine, omega arith, omega arith, omega arith)
