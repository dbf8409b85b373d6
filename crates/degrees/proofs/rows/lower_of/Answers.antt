-- The pair stands in the file, and its lower symbol comes first.
use native.Mathlib.Omega.{arith}
use Rattle.degrees.proofs.Placed.{pair_placed, lower_placed}
use Rattle.degrees.proofs.rows.lower_of.Goals as goal

pub number_at-requires : goal.number_at-requires
number_at-requires c = omega (arith, pair_placed c.args.table c.args.k (omega arith))

pub returns : goal.returns
returns c = lower_placed c.args.table c.args.k _ c.number_at.ensures
