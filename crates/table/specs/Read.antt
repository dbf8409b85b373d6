-- What the code reads of a table file, in the meaning's words.
use Rattle.theory.specs.Pairs.{Pair as ListedPair, pair}
use Rattle.table.specs.declared.read.Pair.{Pair}

abbrev pub pair_in : Pair → ListedPair
pair_in p = pair p.lower p.higher p.degree
