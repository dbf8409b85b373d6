-- Where the strings rise the numbers alone decide; else each entry is tested whole.
use mathlib.Core.Path.{sym, ap, ◌∙◌}
use native.Mathlib.Omega.{arith}
use Rattle.meaning.specs.Refusals.{row}
use Rattle.known_strings.proofs.Testing.{bad_is, absent_is}
use Rattle.known_strings.proofs.check.first_bad.Goals as goal

pub returns-then-rising : goal.returns-then-rising
returns-then-rising c =
    let k = c.args.known in
    absent_is k.text.now k.ends.now k.numbers.now c.args.absent _ c.len-n.ensures.2 (λ j l. c.requires c.if-rising.true j (omega (arith, c.len-n.ensures.2))) ∙ ap (row 19) (sym c.absent_entry.ensures)

pub returns : goal.returns
returns c =
    let k = c.args.known in
    bad_is k.text.now k.ends.now k.numbers.now c.args.absent _ c.len-n.ensures.2 ∙ ap (row 19) (sym c.bad_entry.ensures)
