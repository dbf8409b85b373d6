-- What the check and the readings found is what the rows say.
use mathlib.Core.Path.{refl, sym, ap, ◌∙◌}
use mathlib.Core.Bool.{true, false}
use Rattle.std.specs.Prelude.{is_some}
use Rattle.meaning.specs.Refusals.{first}
use Rattle.meaning.specs.Calls.{nearer_rows}
use Rattle.headings.specs.Terms.{accepted}
use Rattle.headings.proofs.Lists.{kept, whole_where, headings_unaccepted, headings_accepted}
use Rattle.headings.proofs.table_for_headings.Goals as goal

pub returns-in_err-table-clause-accepts : goal.returns-in_err-table-clause-accepts
returns-in_err-table-clause-accepts c =
    ap is_some c.from_residual.ensures ∙ headings_unaccepted _ _ _ _ c.check.result c.check.ensures.checked (sym c.ok.ensures.value ∙ c.in_err-table.was)

pub returns-in_err-ok-clause-accepts : goal.returns-in_err-ok-clause-accepts
returns-in_err-ok-clause-accepts c =
    let a = c.args in
    let t = c.in_ok-table.table in
    let one = whole_where c.read.result c.ok-2.result c.read.ensures c.ok-2.ensures.variant ∙ ap is_some c.in_err-ok.was in
    ap is_some c.from_residual-in_err-ok.ensures
    ∙ headings_accepted t.file.now _ _ _ t.sound false _ _ one refl refl
    ∙ ap (λ f. accepted (first (nearer_rows f a.heading.now a.first.now a.second.now))) (kept c.check.result _ t c.in_ok-table.ensures.value c.check.ensures.same_file)

pub returns-in_err-ok-2-clause-accepts : goal.returns-in_err-ok-2-clause-accepts
returns-in_err-ok-2-clause-accepts c =
    let a = c.args in
    let t = c.in_ok-table.table in
    let one = whole_where c.read.result c.ok-2.result c.read.ensures c.ok-2.ensures.variant ∙ ap is_some c.in_ok-ok.was in
    let two = whole_where c.read-2.result c.ok-3.result c.read-2.ensures c.ok-3.ensures.variant ∙ ap is_some c.in_err-ok-2.was in
    ap is_some c.from_residual-in_err-ok-2.ensures
    ∙ headings_accepted t.file.now _ _ _ t.sound true false _ one two refl
    ∙ ap (λ f. accepted (first (nearer_rows f a.heading.now a.first.now a.second.now))) (kept c.check.result _ t c.in_ok-table.ensures.value c.check.ensures.same_file)

pub returns-in_err-ok-3-clause-accepts : goal.returns-in_err-ok-3-clause-accepts
returns-in_err-ok-3-clause-accepts c =
    let a = c.args in
    let t = c.in_ok-table.table in
    let one = whole_where c.read.result c.ok-2.result c.read.ensures c.ok-2.ensures.variant ∙ ap is_some c.in_ok-ok.was in
    let two = whole_where c.read-2.result c.ok-3.result c.read-2.ensures c.ok-3.ensures.variant ∙ ap is_some c.in_ok-ok-2.was in
    let three = whole_where c.read-3.result c.ok-4.result c.read-3.ensures c.ok-4.ensures.variant ∙ ap is_some c.in_err-ok-3.was in
    ap is_some c.from_residual-in_err-ok-3.ensures
    ∙ headings_accepted t.file.now _ _ _ t.sound true true false one two three
    ∙ ap (λ f. accepted (first (nearer_rows f a.heading.now a.first.now a.second.now))) (kept c.check.result _ t c.in_ok-table.ensures.value c.check.ensures.same_file)

pub returns-clause-accepts : goal.returns-clause-accepts
returns-clause-accepts c =
    let a = c.args in
    let t = c.in_ok-table.table in
    let one = whole_where c.read.result c.ok-2.result c.read.ensures c.ok-2.ensures.variant ∙ ap is_some c.in_ok-ok.was in
    let two = whole_where c.read-2.result c.ok-3.result c.read-2.ensures c.ok-3.ensures.variant ∙ ap is_some c.in_ok-ok-2.was in
    let three = whole_where c.read-3.result c.ok-4.result c.read-3.ensures c.ok-4.ensures.variant ∙ ap is_some c.in_ok-ok-3.was in
    headings_accepted t.file.now _ _ _ t.sound true true true one two three
    ∙ ap (λ f. accepted (first (nearer_rows f a.heading.now a.first.now a.second.now))) (kept c.check.result _ t c.in_ok-table.ensures.value c.check.ensures.same_file)
