-- The symbols near to all are those near to the one.
use borrow.Author.Rules.{rules}
use mathlib.Core.Path.{◌≡◌, refl, ◌∙◌}
use borrow.Author.Tests.{eq-eqb}
use lib.ListN.{length}
use Rattle.meaning.specs.Limits.{set_words_lem}
use Rattle.positions.proofs.Sharing.{near_members, met_alone}
use Rattle.positions.proofs.shared.shared_alone.Goals as goal

pub returns : goal.returns
returns c = λ symbols faced only T cut size known.
    let first = c.args.first in
    let near = c.set_of in
    let many : length near.result.words ≡ set_words_lem = search rules in
    let there = only first ∙ eq-eqb first first refl in
    let set = known.sets first there in
    met_alone T cut faced known.lawful (known.symbols first there) only (near_members known.small set _ many near.ensures) (c.lowest_of.ensures ∙ set.low)
