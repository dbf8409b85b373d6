-- No pattern has more nodes than the notes have room for.
use native.Mathlib.Omega.{arith}
use Rattle.matching.proofs.Searched.{pattern_few}
use Rattle.matches.proofs.memory.search_sound.Goals as goal

pub search_noted-requires-else-asked-le-FEW_NODES-clause-of_notes : goal.search_noted-requires-else-asked-le-FEW_NODES-clause-of_notes
search_noted-requires-else-asked-le-FEW_NODES-clause-of_notes c =
    (omega (arith, pattern_few c.args.asked), omega arith)
