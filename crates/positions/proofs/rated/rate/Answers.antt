-- Degrees side by side give the degrees here with those before.
use Rattle.positions.proofs.Rating.{at_many}
use Rattle.positions.proofs.rated.rate.Goals as goal

pub returns-then-is_large-clause-rated_at : goal.returns-then-is_large-clause-rated_at
returns-then-is_large-clause-rated_at c = at_many c.requires.1 c.requires.2 c.many_degrees.ensures.rated_by
