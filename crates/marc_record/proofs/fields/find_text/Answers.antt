-- Behind the indicators the first subfield with the code is the first that opens.
use Rattle.std.proofs.Common.{◌≡◌, sym, ap, ◌∙◌, ◌+◌, ◌-◌, ◌≤◌, length, drop, inl, inr, arith}
use Rattle.std.proofs.Math.Option.{some as just}
use Rattle.std.proofs.lemmas.List.{drop_all, take_all, length-drop}
use Rattle.marc.specs.Subfields.{text_to, text_of, subfield}
use Rattle.marc_record.proofs.Texts.{text-none, text_opened}
use Rattle.marc_record.proofs.fields.find_text.Goals as goal
use Rattle.marc_record.proofs.fields.find_text.Goals.{In_ok-subfields}

-- what stands behind the indicators
behind : (c : goal.In_ok-subfields) → c.in_ok-subfields.subfields.now ≡ drop 2 c.args.field.now
behind c =
    let field = c.args.field.now in
    c.in_ok-subfields.ensures.lookup.0.2 ∙ take_all (length field - 2) (drop 2 field) (omega (arith, length-drop 2 field))

pub returns-in_err-subfields : goal.returns-in_err-subfields
unfolding subfield text_of
returns-in_err-subfields c =
    let short : length c.args.field.now ≤ 2 = elim c.in_err-subfields.ensures.lookup.0 [ inl p ↦ omega arith | inr p ↦ omega arith ] in
    rw (c.from_residual.ensures, drop_all 2 c.args.field.now short)

pub returns-in_err-at : goal.returns-in_err-at
unfolding subfield
returns-in_err-at c =
    rw (c.from_residual-in_err-at.ensures, ← behind (goal.at.returns-in_err-at c).In_ok-subfields) (sym (text-none c.args.code c.in_ok-subfields.subfields.now c.in_err-at.ensures))

pub returns : goal.returns
unfolding subfield
returns c =
    let parts = c.in_ok-subfields.subfields.now in
    let at = c.in_ok-at.at + 2 in
    let opened = text_opened c.args.code parts c.in_ok-at.at c.in_ok-at.ensures.0 c.in_ok-at.ensures.1 c.in_ok-at.ensures.2 in
    let text = take_all (length parts - at) (drop at parts) (omega (arith, length-drop at parts)) in
    rw (← behind (goal.at.returns c).In_ok-subfields) (ap just (c.text_to_mark.ensures ∙ ap text_to text) ∙ sym opened)
