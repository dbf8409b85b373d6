-- Each list is read in turn; where neither has a fault the loop gives the degree of the terms that they write.
use mathlib.Core.Path.{◌≡◌, sym, ap, ◌∙◌}
use mathlib.Core.Bool.{false}
use Rattle.std.proofs.lemmas.Result.{err_from_is_err_and}
use Rattle.theory.specs.Read.{reading, whole}
use Rattle.meaning.specs.File.{table_in}
use Rattle.meaning.specs.Refusals.{table_rows}
use Rattle.meaning.specs.Calls.{gives, degree_rows, heading_degree}
use Rattle.refusal.specs.declared.Refusal.TheVariants.{Pattern, Heading}
use Rattle.sound.proofs.Checks.{says_early}
use Rattle.headings.proofs.Lists.{faulty_where, read_whole, first_faulty, second_faulty, both_whole}
use Rattle.headings.proofs.degree_of_headings.Goals as goal

pub returns-in_err-table : goal.returns-in_err-table
unfolding heading_degree degree_rows
returns-in_err-table c =
    let t = c.args.table.now in
    let p = err_from_is_err_and c.from_residual.result c.from_residual.ensures.1 in
    rw (p.1, p.2) (says_early _ _ (table_rows t) _ (sym c.in_err-table.ensures.checked))

pub returns-in_err-map_err : goal.returns-in_err-map_err
returns-in_err-map_err c =
    let t = c.in_ok-table.table in
    let p = err_from_is_err_and c.from_residual-in_err-map_err.result c.from_residual-in_err-map_err.ensures.1 in
    let f = faulty_where c.read.result c.map_err.result Pattern c.read.ensures c.map_err.ensures.cases c.in_err-map_err.was in
    rw (p.1, p.2, f.1.1) (first_faulty t.file.now _ _ t.sound f.0 f.1.0 ∙ ap (λ f. heading_degree f c.args.first.now c.args.second.now) c.in_ok-table.ensures.same_file)

pub returns-in_err-map_err-2 : goal.returns-in_err-map_err-2
returns-in_err-map_err-2 c =
    let t = c.in_ok-table.table in
    let p = err_from_is_err_and c.from_residual-in_err-map_err-2.result c.from_residual-in_err-map_err-2.ensures.1 in
    let f = faulty_where c.read-2.result c.map_err-2.result Heading c.read-2.ensures c.map_err-2.ensures.cases c.in_err-map_err-2.was in
    let first : reading (table_in t.file.now) false c.args.first.now ≡ whole = read_whole c.read.result c.map_err.result c.read.ensures c.map_err.ensures.variant c.in_ok-map_err.was in
    rw (p.1, p.2, f.1.1) (second_faulty t.file.now _ _ t.sound f.0 first f.1.0 ∙ ap (λ f. heading_degree f c.args.first.now c.args.second.now) c.in_ok-table.ensures.same_file)

pub returns : goal.returns
returns c =
    let t = c.in_ok-table.table in
    let first : reading (table_in t.file.now) false c.args.first.now ≡ whole = read_whole c.read.result c.map_err.result c.read.ensures c.map_err.ensures.variant c.in_ok-map_err.was in
    let second : reading (table_in t.file.now) false c.args.second.now ≡ whole = read_whole c.read-2.result c.map_err-2.result c.read-2.ensures c.map_err-2.ensures.variant c.in_ok-map_err-2.was in
    ap gives c.heading_degree.ensures ∙ both_whole t.file.now _ _ t.sound first second ∙ ap (λ f. heading_degree f c.args.first.now c.args.second.now) c.in_ok-table.ensures.same_file
