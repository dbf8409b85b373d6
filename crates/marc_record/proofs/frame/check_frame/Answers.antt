-- The rows of the leader, in their order; then what `check_fields` finds.
use Rattle.std.proofs.Common.{◌≡◌, refl, sym, ◌∙◌, length, true, arith}
use Rattle.std.proofs.lemmas.Result.{err_from_is_err_and}
use Rattle.marc.specs.Frame.{digits_at, record_length}
use Rattle.marc.proofs.Frames.{framed}
use Rattle.marc_record.proofs.Numbers.{number_stands}
use Rattle.marc_record.proofs.Rows.{directory, too_short, length_is, length_is_not, at_base, behind_leader}
use Rattle.marc_record.proofs.frame.check_frame.Goals as goal
use Rattle.marc_record.proofs.frame.check_frame.Goals.{Else-ne, then-bytes-lt-SHORTEST-via-then-bytes-lt-SHORTEST, then-bytes-lt-SHORTEST-via-else-bytes-lt-SHORTEST+then-ne}

-- the record's length is a number, that of the bytes lent
length_read : (c : goal.Else-ne) → let r = c.args.bytes.now in (digits_at r 0 5 ≡ true) × (record_length r ≡ length r)
length_read c = length_is c.args.bytes.now c.number.result (number_stands c.args.bytes.now 0 5 5 refl (omega arith) c.number.result c.number.ensures) (sym c.ne.ensures ∙ c.if-ne.false)

pub returns-then-bytes-lt-SHORTEST : goal.returns-then-bytes-lt-SHORTEST
returns-then-bytes-lt-SHORTEST c =
    let r = c.args.bytes.now in
    elim c.then-bytes-lt-SHORTEST.branch [
      | then-bytes-lt-SHORTEST-via-then-bytes-lt-SHORTEST w ↦ sym (too_short r (omega arith))
      | then-bytes-lt-SHORTEST-via-else-bytes-lt-SHORTEST+then-ne w ↦ sym (length_is_not r w.number.result (omega arith) (number_stands r 0 5 5 refl (omega arith) w.number.result w.number.ensures) (sym w.ne.ensures ∙ w.if-ne.true))
    ]

pub returns-in_err-base : goal.returns-in_err-base
returns-in_err-base c =
    let length_fine = length_read (goal.at.returns-in_err-base c).Else-ne in
    let bad = rw c.in_err-base.ensures.ok_part at c.read_base.ensures in
    let told = rw c.in_err-base.ensures.ok_part at c.in_err-base.ensures.value in
    let place : c.in_err-base.field-0.0 ≡ 12 = cc in
    let p = err_from_is_err_and c.from_residual.result c.from_residual.ensures.1 in
    rw (p.1, p.2, place) (sym (at_base c.args.bytes.now (omega arith) length_fine.0 length_fine.1 bad))

pub returns-in_err-check_fields : goal.returns-in_err-check_fields
returns-in_err-check_fields c =
    let length_fine = length_read (goal.at.returns-in_err-check_fields c).Else-ne in
    let base = rw c.in_ok-base.ensures.ok_part at c.read_base.ensures in
    let p = err_from_is_err_and c.from_residual-in_err-check_fields.result c.from_residual-in_err-check_fields.ensures.1 in
    rw (p.1, p.2) (sym (c.in_err-check_fields.ensures ∙ behind_leader c.args.bytes.now (omega arith) length_fine.0 length_fine.1 base.0))

pub check_fields-requires : goal.check_fields-requires
check_fields-requires c =
    let base = rw c.in_ok-base.ensures.ok_part at c.read_base.ensures in
    directory c.args.bytes.now c.in_ok-base.base base.1 base.2 base.0

pub invariant_of-result : goal.invariant_of-result
invariant_of-result c =
    let length_fine = length_read (goal.at.invariant_of-result c).Else-ne in
    let base = rw c.in_ok-base.ensures.ok_part at c.read_base.ensures in
    let whole = sym (c.in_ok-check_fields.ensures ∙ behind_leader c.args.bytes.now (omega arith) length_fine.0 length_fine.1 base.0) in
    let frame = framed c.args.bytes.now whole in
    record { whole = whole; base_is = base.1; entries_fit = base.1 ∙ frame.directory_fits; inside = omega (arith, base.1, frame.base_inside) }
