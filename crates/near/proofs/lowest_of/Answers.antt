-- What is kept is at most 1002, so the degree is what 1002 is above it.
use mathlib.Core.Path.{refl}
use Rattle.near.specs.Near.{kept}
use Rattle.near.proofs.lowest_of.Goals as goal

pub overflow_sub-result : goal.overflow_sub-result
unfolding kept
overflow_sub-result c = c.requires.2

pub returns : goal.returns
unfolding kept
returns c = refl
