-- The search passes what is not bad, and stops at what is.
use mathlib.Core.Path.{◌≡◌}
use mathlib.Core.Bool.{true, false}
use Rattle.std.proofs.Common.{rules, tests}
use Rattle.std.proofs.lemmas.Iterator.{first_from_Range}
use Rattle.known_strings.specs.Lent.{bad_in}
use Rattle.known_strings.proofs.Seeking.{least_found}
use Rattle.known_strings.proofs.bad.bad_of_few.Goals as goal

pub returns : goal.returns
returns c =
    let a = c.args in
    let bad = bad_in a.known.text.now a.known.ends.now a.known.numbers.now a.absent in
    least_found bad a.n c.find.result
    (first_from_Range _ _ _ c.find.result (λ k. bad k ≡ true) (λ k. bad k ≡ false) c.find.ensures.ran (λ x q k. search (rules, tests)) (λ x q k. search (rules, tests)))
