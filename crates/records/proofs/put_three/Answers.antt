-- The part from number `at` on holds the three that were copied there.
use native.Mathlib.Omega.{arith}
use Rattle.layout.proofs.Bytes.{over_copied}
use Rattle.records.proofs.put_three.Goals as goal

pub returns : goal.returns
returns c = over_copied c.args.numbers.now c.args.at _ _ c.copy_from_slice.ensures.after (omega arith)
