-- Where the pairs stop is the first bad one, or behind the last whole one.
use Rattle.writer.proofs.Stops.{stops}
use Rattle.writer.proofs.sound_pairs.Goals as goal

pub returns : goal.returns
returns c = rw c.unwrap_or.ensures (stops c.args.arities.now c.args.numbers.now c.bad_pair.result c.bad_pair.ensures)
