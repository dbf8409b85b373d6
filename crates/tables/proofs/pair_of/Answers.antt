-- What the file has at the index is what is read back from it; past the last one the call says that there is none.
use mathlib.Core.Path.{ap, sym, ◌∙◌}
use mathlib.Core.List.{[], ◌∷◌}
use Prim.Native.Nat.{◌<◌}
use native.Mathlib.Omega.{arith}
use Rattle.std.proofs.lemmas.Result.{err_from_is_err_and}
use Rattle.meaning.specs.File.{pair_count_lem}
use Rattle.meaning.specs.Refusals.{table_rows, row14}
use Rattle.meaning.specs.Calls.{gives, back_rows, pair_back}
use Rattle.meaning.proofs.Back.{reads_back}
use Rattle.meaning.proofs.Bytes.{pair_in_lem}
use Rattle.sound.proofs.Checks.{says_early}
use Rattle.tables.proofs.pair_of.Goals as goal

pub returns-in_err-table : goal.returns-in_err-table
unfolding back_rows pair_back
returns-in_err-table c =
    let t = c.args.table.now in
    let p = err_from_is_err_and c.from_residual.result c.from_residual.ensures.1 in
    rw (p.1, p.2) (says_early _ _ (table_rows t) (row14 c.args.index _ ∷ []) (sym c.in_err-table.ensures.checked))

pub returns-then-index-table : goal.returns-then-index-table
returns-then-index-table c =
    let t = c.in_ok-table.table in
    sym ((reads_back t.file.now t.sound).no_pair c.args.index (omega (arith, t.pairs_are)))
    ∙ ap (λ f. pair_back f c.args.index) c.in_ok-table.ensures.same_file

pub returns : goal.returns
returns c =
    let t = c.in_ok-table.table in
    let f = t.file.now in
    let l : c.args.index < pair_count_lem f = omega (arith, t.pairs_are) in
    ap gives (c.pair.ensures ∙ pair_in_lem f c.args.index l)
    ∙ sym ((reads_back f t.sound).pair c.args.index l)
    ∙ ap (λ f. pair_back f c.args.index) c.in_ok-table.ensures.same_file
