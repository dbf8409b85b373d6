-- The promise is the equation that the search keeps, and where the input is refused the buffers are not touched.
use mathlib.Core.Path.{sym, ap, ◌∙◌}
use Rattle.std.proofs.lemmas.Result.{err_from_is_err_and}
use Rattle.meaning.specs.Refusals.{first}
use Rattle.meaning.specs.Calls.{input_rows}
use Rattle.matches.proofs.Asked.{input_table, input_asked, promised, refused_promise}
use Rattle.matches.proofs.match_heading.Goals as goal

pub returns-in_err-table : goal.returns-in_err-table
returns-in_err-table c =
    let a = c.args in
    let p = err_from_is_err_and c.from_residual.result c.from_residual.ensures.1 in
    let refused = sym c.in_err-table.ensures.checked in
    rw (p.1, p.2) (refused_promise a.table.now a.pattern.now a.heading.now a.cut a.spans.now a.sets.now _ (input_table a.table.now a.pattern.now a.heading.now a.cut a.spans.now a.sets.now _ refused))

pub returns-in_err-asked : goal.returns-in_err-asked
returns-in_err-asked c =
    let a = c.args in
    let t = c.in_ok-table.table in
    let p = err_from_is_err_and c.from_residual-in_err-asked.result c.from_residual-in_err-asked.ensures.1 in
    let refused = input_asked t.file.now a.pattern.now a.heading.now a.cut a.spans.now a.sets.now t.sound _ c.in_err-asked.ensures.checked
    ∙ ap (λ file. first (input_rows file a.pattern.now a.heading.now a.cut a.spans.now a.sets.now)) c.in_ok-table.ensures.same_file in
    rw (p.1, p.2) (refused_promise a.table.now a.pattern.now a.heading.now a.cut a.spans.now a.sets.now _ (sym refused))

pub search_sound-requires : goal.search_sound-requires
search_sound-requires c =
    let a = c.args in
    let t = c.in_ok-table.table in
    let asked = c.in_ok-asked.ensures in
    rw (asked.table, asked.lists.0, asked.lists.1, asked.cut) (sym (input_asked t.file.now a.pattern.now a.heading.now a.cut a.spans.now a.sets.now t.sound _ asked.checked))

pub returns : goal.returns
returns c =
    let a = c.args in
    let asked = c.in_ok-asked.ensures in
    promised a.table.now a.pattern.now a.heading.now a.cut a.spans.now a.sets.now _ _ _
    (c.search_sound.ensures ∙ rw (asked.table, asked.lists.0, asked.lists.1, asked.cut, c.in_ok-table.ensures.same_file))
