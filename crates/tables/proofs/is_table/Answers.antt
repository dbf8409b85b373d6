-- The call says what the check of the table found.
use mathlib.Core.Path.{sym}
use Rattle.std.proofs.lemmas.Result.{err_from_is_err_and}
use Rattle.meaning.specs.Refusals.{table_rows}
use Rattle.meaning.specs.Calls.{aye, is_table_lem}
use Rattle.sound.proofs.Checks.{says}
use Rattle.tables.proofs.is_table.Goals as goal

pub returns-in_err-check : goal.returns-in_err-check
unfolding is_table_lem
returns-in_err-check c =
    let p = err_from_is_err_and c.from_residual.result c.from_residual.ensures.1 in
    rw (p.1, p.2) (says aye _ (table_rows c.args.table.now) (sym c.in_err-check.ensures.checked))

pub returns : goal.returns
unfolding is_table_lem
returns c = rw (sym c.in_ok-check.ensures.checked)
