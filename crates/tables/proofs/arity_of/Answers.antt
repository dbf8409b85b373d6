-- What the file has at the symbol is what is read back from it; past the last one the call says that there is none.
use mathlib.Core.Path.{ap, sym, ◌∙◌}
use mathlib.Core.List.{[], ◌∷◌}
use Prim.Native.Nat.{◌<◌}
use native.Mathlib.Omega.{arith}
use Rattle.std.proofs.lemmas.Result.{err_from_is_err_and}
use Rattle.meaning.specs.File.{table_in}
use Rattle.meaning.specs.Refusals.{table_rows, row14}
use Rattle.meaning.specs.Calls.{gives, back_rows, arity_back}
use Rattle.meaning.proofs.Back.{reads_back}
use Rattle.table.proofs.Reading.{size_is, arity_is}
use Rattle.sound.proofs.Checks.{says_early}
use Rattle.tables.proofs.arity_of.Goals as goal

pub returns-in_err-table : goal.returns-in_err-table
unfolding back_rows arity_back
returns-in_err-table c =
    let t = c.args.table.now in
    let p = err_from_is_err_and c.from_residual.result c.from_residual.ensures.1 in
    rw (p.1, p.2) (says_early _ _ (table_rows t) (row14 c.args.symbol _ ∷ []) (sym c.in_err-table.ensures.checked))

pub returns-then-symbol-table : goal.returns-then-symbol-table
returns-then-symbol-table c =
    let t = c.in_ok-table.table in
    let f = t.file.now in
    sym ((reads_back f t.sound).no_symbol c.args.symbol (omega (arith, t.symbols_are, size_is f t.sound)))
    ∙ ap (λ f. arity_back f c.args.symbol) c.in_ok-table.ensures.same_file

pub returns : goal.returns
returns c =
    let t = c.in_ok-table.table in
    let f = t.file.now in
    let l : c.args.symbol < (table_in f).size = omega (arith, t.symbols_are) in
    ap gives (c.arity.ensures.0 ∙ arity_is f t.sound c.args.symbol l)
    ∙ sym ((reads_back f t.sound).arity c.args.symbol (omega (arith, size_is f t.sound)))
    ∙ ap (λ f. arity_back f c.args.symbol) c.in_ok-table.ensures.same_file
