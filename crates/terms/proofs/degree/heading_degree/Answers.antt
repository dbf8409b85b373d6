-- Lists of unlike length have degree 0.
use native.Mathlib.Omega.{arith}
use Rattle.terms.proofs.Degrees.{unlike}
use Rattle.terms.proofs.degree.heading_degree.Goals as goal

pub returns-then-one-two : goal.returns-then-one-two
returns-then-one-two c = unlike _ c.args.table.sound _ _ c.requires.0 c.requires.1 (λ e. omega arith)
