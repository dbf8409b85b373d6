-- Where both are accepted the list is a term, so that a subterm stands at each index, and the part goes to where it ends; else it is empty.
use mathlib.Core.Path.{◌≡◌, refl, sym, ap, ◌∙◌}
use mathlib.Core.Bool.{true}
use native.Mathlib.Omega.{arith}
use Rattle.meaning.specs.Refusals.{first}
use Rattle.meaning.specs.Calls.{subterm_rows, subterm}
use Rattle.meaning.proofs.Parts.{subterms}
use Rattle.terms.proofs.Ends.{ends_in}
use Rattle.headings.specs.Terms.{accepted}
use Rattle.headings.proofs.Lists.{term_sound, no_subterm, subterm_to}
use Rattle.headings.proofs.subterm.Goals as goal
use Rattle.headings.proofs.subterm.Goals.{In-Some}

-- where a table is handed on, it and the term over it are accepted
taken : (c : goal.In-Some) → accepted (first (subterm_rows c.in-Some.table.file.now c.args.term.now)) ≡ true
taken c = ap (λ f. accepted (first (subterm_rows f c.args.term.now))) c.in-Some.ensures.same_file ∙ sym c.in-Some.ensures.accepts

pub returns-in_default : goal.returns-in_default
returns-in_default c = rw (no_subterm _ _ (sym c.in_default.ensures.accepts) _) (record { holds = refl; block = refl; offset = omega arith })

pub returns-then-index-term : goal.returns-then-index-term
returns-then-index-term c =
    let a = c.args in
    rw (subterms.outside_part a.table.now a.term.now a.index (omega arith)) (record { holds = refl; block = refl; offset = omega arith })

pub end_from-end-requires : goal.end_from-end-requires
end_from-end-requires c =
    let sound = term_sound _ _ (taken (goal.at.end_from-end-requires c).In-Some) in
    ends_in _ sound.0 true _ sound.1 _ (omega arith)

pub returns : goal.returns
returns c =
    let a = c.args in
    let q = subterm_to _ _ (taken (goal.at.returns c).In-Some) a.index (omega arith) _ c.end_from-end.ensures.at_value in
    rw (sym (ap (λ f. subterm f a.term.now a.index) c.in-Some.ensures.same_file) ∙ q) (record { holds = refl; block = refl; offset = omega arith })
