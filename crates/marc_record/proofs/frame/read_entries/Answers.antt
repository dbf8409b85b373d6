-- The first fault is told at once. A field's mark is noted where it is the first that is missing.
use Rattle.std.proofs.Common.{◌≡◌, ◌-◌, sym, ap, arith}
use Rattle.std.proofs.lemmas.Result.{err_from_is_err_and}
use Rattle.marc.specs.Frame.{entry_count, entry_fault, field_end}
use Rattle.marc_record.proofs.Places.{place_on, place_at, mark_missed, mark_stands}
use Rattle.marc_record.proofs.frame.read_entries.Goals as goal
use Rattle.marc_record.proofs.frame.read_entries.Goals.{then-bytes-last-ne-FIELD_MARK, else-bytes-last-ne-FIELD_MARK}

pub returns-in_err-last : goal.returns-in_err-last
returns-in_err-last c =
    let r = c.args.bytes.now in
    let p = err_from_is_err_and c.from_residual.result c.from_residual.ensures.1 in
    let d = c.requires in
    rw (p.1, p.2) (place_at (entry_fault r) c.loop-e.e (entry_count r) _ c.loop-e.invariant.0 c.in_err-last.ensures (omega (arith, d.entries_are)))

pub loop-e-preserved : goal.loop-e-preserved
loop-e-preserved c =
    let r = c.args.bytes.now in
    let e = c.loop-e.e in
    let field = c.in_ok-last.ensures in
    let so_far = c.loop-e.invariant.1 in
    let last : c.in_ok-last.field-0 - 1 ≡ field_end r e - 1 = ap (λ k. k - 1) field.1 in (
      place_on (entry_fault r) e c.loop-e.invariant.0 field.0,
      elim c.if-bytes-last-ne-FIELD_MARK.branch [
        | then-bytes-last-ne-FIELD_MARK w ↦ rw (w.unmarked-is, w.or-unmarked.ensures) (mark_missed r e _ _ so_far last w.if-bytes-last-ne-FIELD_MARK.true)
        | else-bytes-last-ne-FIELD_MARK w ↦ rw w.unmarked-is (mark_stands r e _ _ so_far last w.if-bytes-last-ne-FIELD_MARK.false)
      ],
    )

pub returns : goal.returns
returns c =
    let r = c.args.bytes.now in
    let d = c.requires in
    let all : c.loop-e.e ≡ entry_count r = omega (arith, d.entries_are) in
    rw (sym all) c.loop-e.invariant
