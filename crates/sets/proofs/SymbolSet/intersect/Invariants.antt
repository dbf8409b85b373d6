-- The words below i are made, and those from i on are still the set's own.
use Rattle.std.proofs.Common.{bit_and}
use Rattle.meaning.specs.Limits.{set_words_lem}
use Rattle.sets.proofs.Making.{Made}
use Rattle.sets.proofs.SymbolSet.intersect.Given as goal

abbrev pub invariant-loop-i : goal.invariant-loop-i
invariant-loop-i l = Made bit_and set_words_lem l.fn.self.words l.others l.word-items l.i
