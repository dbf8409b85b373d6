-- One symbol that stands there alone tells the degrees by its near set.
use Rattle.std.proofs.Common.{arith, ◌≡◌, Some, ap, ◌∙◌}
use Rattle.meaning.specs.Limits.{set_words_lem}
use Rattle.sets.proofs.Laws.{member_one}
use Rattle.positions.specs.declared.faced.Faced.TheVariants.{Alone}
use Rattle.positions.proofs.Rating.{at_alone}
use Rattle.positions.proofs.rated.degrees_at.Goals as goal

pub returns-in-Some-Alone-clause-degrees_at : goal.returns-in-Some-Alone-clause-degrees_at
returns-in-Some-Alone-clause-degrees_at c =
    let t = c.args.table in
    let v = c.in-Some-Alone in
    let e : c.args.faced ≡ Some (Alone v.field-0-0) = v.is ∙ ap Some (rw v.is at v.field-0-is) in
    let below = rw e at c.requires.alone_below in
    rw e (at_alone c.requires.index.1 c.requires.index.2 below (member_one set_words_lem v.field-0-0 (omega (arith, t.symbols_are, t.few))) c.min.ensures)
