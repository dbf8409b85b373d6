-- What the check and the reading found is what the rows say.
use mathlib.Core.Path.{sym, ap, ◌∙◌}
use mathlib.Core.Bool.{true, false}
use Rattle.std.specs.Prelude.{is_some}
use Rattle.meaning.specs.Refusals.{first}
use Rattle.meaning.specs.Calls.{subterm_rows}
use Rattle.headings.specs.Terms.{accepted}
use Rattle.headings.proofs.Lists.{kept, whole_where, term_unaccepted, term_accepted}
use Rattle.headings.proofs.table_for_term.Goals as goal

pub returns-in_err-table-clause-accepts : goal.returns-in_err-table-clause-accepts
returns-in_err-table-clause-accepts c =
    ap is_some c.from_residual.ensures ∙ term_unaccepted _ _ c.check.result c.check.ensures.checked (sym c.ok.ensures.value ∙ c.in_err-table.was)

pub returns-in_err-ok-clause-accepts : goal.returns-in_err-ok-clause-accepts
returns-in_err-ok-clause-accepts c =
    let t = c.in_ok-table.table in
    let whole = whole_where c.read.result c.ok-2.result c.read.ensures c.ok-2.ensures.variant in
    ap is_some c.from_residual-in_err-ok.ensures
    ∙ term_accepted t.file.now _ t.sound false (whole ∙ ap is_some c.in_err-ok.was)
    ∙ ap (λ f. accepted (first (subterm_rows f c.args.term.now))) (kept c.check.result _ t c.in_ok-table.ensures.value c.check.ensures.same_file)

pub returns-clause-accepts : goal.returns-clause-accepts
returns-clause-accepts c =
    let t = c.in_ok-table.table in
    let whole = whole_where c.read.result c.ok-2.result c.read.ensures c.ok-2.ensures.variant in
    term_accepted t.file.now _ t.sound true (whole ∙ ap is_some c.in_ok-ok.was)
    ∙ ap (λ f. accepted (first (subterm_rows f c.args.term.now))) (kept c.check.result _ t c.in_ok-table.ensures.value c.check.ensures.same_file)
