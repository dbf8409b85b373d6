-- Where the file is not refused, the header and then the arities behind it are laid over the output; else nothing is.
use mathlib.Core.Path.{refl, ◌∙◌}
use native.Mathlib.Omega.{arith}
use lib.ListN.{length}
use Rattle.meaning.specs.File.{header}
use Rattle.refusal.specs.Told.{told}
use Rattle.meaning.proofs.Over.{over_next}
use Rattle.writer.proofs.Rows.{given_room, begun_given, begun_refused}
use Rattle.writer.proofs.begin.Goals as goal

pub returns-clause-output_after : goal.returns-clause-output_after
returns-clause-output_after c =
    let a = c.args in
    let given = c.in_ok-total.ensures in
    over_next a.output.now 0 (header (length a.arities.now) a.pairs) 10 a.arities.now
    c.put_header.ensures c.put_arities.ensures
    refl (omega (arith, given_room _ _ _ _ _ given))
    ∙ begun_given _ _ _ _ _ given

pub returns-in_err-total-clause-output_after : goal.returns-in_err-total-clause-output_after
returns-in_err-total-clause-output_after c = begun_refused _ _ _ _ (told _) c.in_err-total.ensures
