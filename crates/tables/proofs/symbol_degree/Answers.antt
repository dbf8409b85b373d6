-- Where the table is sound and both numbers are below its count, they are symbols and the search gives their degree; else the call says what the
-- check found, or which number is none.
use mathlib.Core.Path.{refl, sym, ap, ◌∙◌}
use mathlib.Core.List.{[], ◌∷◌}
use native.Mathlib.Omega.{arith}
use Rattle.std.proofs.lemmas.Result.{err_from_is_err_and}
use Rattle.meaning.specs.File.{symbol_count_lem}
use Rattle.meaning.specs.Refusals.{table_rows, row13}
use Rattle.meaning.specs.Calls.{gives, symbol_rows, symbol_degree_lem}
use Rattle.meaning.proofs.Degrees.{gives_degree, symbol_degrees}
use Rattle.table.proofs.Reading.{size_is}
use Rattle.sound.proofs.Checks.{says_early}
use Rattle.tables.proofs.symbol_degree.Goals as goal

pub returns-in_err-table : goal.returns-in_err-table
unfolding symbol_rows symbol_degree_lem
returns-in_err-table c =
    let a = c.args in
    let t = a.table.now in
    let p = err_from_is_err_and c.from_residual.result c.from_residual.ensures.1 in
    rw (p.1, p.2) (says_early _ _ (table_rows t) (row13 (symbol_count_lem t) a.a a.b ∷ []) (sym c.in_err-table.ensures.checked))

pub returns-then-a-table : goal.returns-then-a-table
returns-then-a-table c =
    let a = c.args in
    let t = c.in_ok-table.table in
    sym ((symbol_degrees t.file.now t.sound).first-outside a.a a.b (omega (arith, t.symbols_are, size_is t.file.now t.sound)))
    ∙ ap (λ f. symbol_degree_lem f a.a a.b) c.in_ok-table.ensures.same_file

pub returns-then-b-table : goal.returns-then-b-table
returns-then-b-table c =
    let a = c.args in
    let t = c.in_ok-table.table in
    let n = size_is t.file.now t.sound in
    sym ((symbol_degrees t.file.now t.sound).second_outside a.a a.b (omega (arith, n, t.symbols_are)) (omega (arith, n, t.symbols_are)))
    ∙ ap (λ f. symbol_degree_lem f a.a a.b) c.in_ok-table.ensures.same_file

pub returns : goal.returns
returns c =
    let a = c.args in
    let t = c.in_ok-table.table in
    let n = size_is t.file.now t.sound in
    ap gives c.degree.ensures
    ∙ sym (gives_degree t.file.now t.sound a.a a.b _ (omega (arith, n, t.symbols_are)) (omega (arith, n, t.symbols_are)) refl)
    ∙ ap (λ f. symbol_degree_lem f a.a a.b) c.in_ok-table.ensures.same_file
