-- The entries decide first, then the marks, in their order.
use Rattle.std.proofs.Common.{◌≡◌, sym, ap, ◌∙◌, ◌-◌, get_or, arith}
use Rattle.std.proofs.Math.Option.{none, some as just}
use Rattle.std.proofs.lemmas.Result.{err_from_is_err_and}
use Rattle.meaning.specs.Refusals.{refusal}
use Rattle.marc.specs.Frame.{base_address, field_mark, entry_count, first_place}
use Rattle.marc_record.specs.Found.{found}
use Rattle.marc_record.specs.Frames.{unended}
use Rattle.marc_record.proofs.Rows.{at_entry, at-directory, at_field, at_end, at_none}
use Rattle.marc_record.proofs.frame.check_fields.Goals as goal
use Rattle.marc_record.proofs.frame.check_fields.Goals.{Else-bytes-base-ne-FIELD_MARK, In_default}

-- the directory ends with its mark
directory-marked : (c : goal.Else-bytes-base-ne-FIELD_MARK) → let r = c.args.bytes.now in get_or r (base_address r - 1) 0 ≡ field_mark
directory-marked c = omega (arith, ap (λ b. get_or c.args.bytes.now (b - 1) 0) c.requires.base_is)

-- each field ends with its mark
fields-marked : (c : goal.In_default) → let r = c.args.bytes.now in first_place (entry_count r) (unended r) ≡ none
fields-marked c = sym c.in_ok-unmarked.ensures.1 ∙ ap found c.in_default.is

pub returns-in_err-unmarked : goal.returns-in_err-unmarked
returns-in_err-unmarked c =
    let p = err_from_is_err_and c.from_residual.result c.from_residual.ensures.1 in
    rw (p.1, p.2) (at_entry c.args.bytes.now _ c.in_err-unmarked.ensures)

pub returns-then-bytes-base-ne-FIELD_MARK : goal.returns-then-bytes-base-ne-FIELD_MARK
returns-then-bytes-base-ne-FIELD_MARK c =
    let r = c.args.bytes.now in
    let last : c.args.base - 1 ≡ base_address r - 1 = ap (λ b. b - 1) c.requires.base_is in
    ap (λ p. just (refusal 17 p)) last ∙ at-directory r c.in_ok-unmarked.ensures.0 (λ e. omega (arith, ap (λ i. get_or r i 0) last))

pub returns-in-Some : goal.returns-in-Some
returns-in-Some c =
    at_field c.args.bytes.now c.in_ok-unmarked.ensures.0 (directory-marked (goal.at.returns-in-Some c).Else-bytes-base-ne-FIELD_MARK) _ (sym c.in_ok-unmarked.ensures.1 ∙ ap found c.in-Some.is)

pub returns-then-bytes-last-ne-RECORD_MARK : goal.returns-then-bytes-last-ne-RECORD_MARK
returns-then-bytes-last-ne-RECORD_MARK c =
    let before = goal.at.returns-then-bytes-last-ne-RECORD_MARK c in
    at_end c.args.bytes.now c.in_ok-unmarked.ensures.0 (directory-marked before.Else-bytes-base-ne-FIELD_MARK) (fields-marked before.In_default) (λ e. omega arith)

pub returns : goal.returns
returns c =
    let before = goal.at.returns c in
    at_none c.args.bytes.now c.in_ok-unmarked.ensures.0 (directory-marked before.Else-bytes-base-ne-FIELD_MARK) (fields-marked before.In_default) (omega arith)
