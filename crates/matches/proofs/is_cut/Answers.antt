-- A degree above 0 is in the range, and no other cut is.
use native.Mathlib.Omega.{arith}
use Rattle.std.proofs.lemmas.Bool.Decides.{nat_tests}
use Rattle.meaning.specs.Refusals.{row5}
use Rattle.matches.proofs.is_cut.Goals as goal

pub returns : goal.returns
unfolding row5
returns c = grind (arith, nat_tests)
