-- Each symbol that is met lets through those that are near to it; at the end none of the table's symbols is left.
use Rattle.std.proofs.Common.{rules, arith, ◌≡◌, length, ◌∙◌}
use Rattle.meaning.specs.Limits.{set_words_lem}
use Rattle.positions.proofs.Sharing.{near_members, met_first, met_next, met_all}
use Rattle.positions.proofs.shared.shared_by.Goals as goal

pub loop-h-init : goal.loop-h-init
loop-h-init c =
    let step = c.in-Some.ensures.steps in
    let least = step.2.0 in
    let begun = c.members-others.ensures in
    let many : length c.set_of-set.result.words ≡ set_words_lem = search rules in
    rw c.into_iter-h-iterator.ensures.into_iter_gives (
      tt,
      tt,
      step.0 ∙ begun.0,
      step.1 ∙ begun.2,
      omega (arith, least.below, step.2.1, begun.2),
      λ T cut size known.
          let first = rw begun.0 at least.is in
          let set = known.sets _ first in
          let words = near_members known.small set _ many c.set_of-set.ensures in
          rw step.2.1 (met_first T cut _ known.lawful (rw (begun.0, begun.1) at least.none) first words (c.lowest_of-floor.ensures ∙ set.low)),
    )

pub loop-h-preserved : goal.loop-h-preserved
loop-h-preserved c =
    let loop = c.loop-h in
    let step = c.in-Some-h.ensures.steps in
    let least = step.2.0 in
    let words = loop.invariant.2 in
    let here = rw words at least.is in
    let other = c.set_of in
    let many : length other.result.words ≡ set_words_lem = search rules in (
      tt,
      tt,
      step.0 ∙ words,
      step.1 ∙ loop.invariant.3,
      omega (arith, least.below, step.2.1, loop.invariant.3),
      λ T cut size known.
          let set = known.sets _ here in
          let near = near_members known.small set _ many other.ensures in
          rw step.2.1
          (met_next T cut _ known.lawful other.result.words least.not_below here (rw words at least.none) near c.intersect-set.ensures (c.lowest_of.ensures ∙ set.low) c.min-floor.ensures (loop.invariant.5 T cut size known)),
    )

pub returns : goal.returns
returns c = λ T cut size known.
    let loop = c.loop-h in
    let none = rw (loop.invariant.2, loop.invariant.3) at c.in-None.ensures.steps.2 in
    met_all T cut _ (omega (arith, loop.invariant.4)) (rw size none) (loop.invariant.5 T cut size known)
