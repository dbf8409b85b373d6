-- A length that is too great or too small is refused outright; else what the comparisons say.
use borrow.Author.Rules.{rules}
use native.Mathlib.Omega.{arith}
use Rattle.std.proofs.Common.{inl, inr}
use Rattle.meaning.specs.Program.{cut_in}
use Rattle.shape.proofs.Shapes.{outside_row, misplaced_row, placed_row}
use Rattle.shape.proofs.parts.take_apart.Goals as goal
use Rattle.shape.proofs.parts.take_apart.Goals.{then-input-gt65535-via-then-input-gt65535, then-input-gt65535-via-else-input-gt65535+then-input-lt14}

pub returns-then-input-gt65535 : goal.returns-then-input-gt65535
returns-then-input-gt65535 c =
    elim c.then-input-gt65535.branch [
      | then-input-gt65535-via-then-input-gt65535 w ↦ outside_row c.args.input.now (inl (omega arith))
      | then-input-gt65535-via-else-input-gt65535+then-input-lt14 w ↦ outside_row c.args.input.now (inr (omega arith))
    ]

pub returns-then-not-well_placed : goal.returns-then-not-well_placed
returns-then-not-well_placed c = misplaced_row c.args.input.now (λ placed. let so = c.if-not-well_placed.ensures.1 placed in search rules)

pub returns : goal.returns
unfolding cut_in
returns c = record {
  accepted = placed_row c.args.input.now (omega arith) (omega arith) (c.if-not-well_placed.ensures.0 (search rules));
  cut_is = c.number_at.ensures;
  pattern_is = c.number_at-pattern.ensures;
  heading_is = c.number_at-heading.ensures;
}
