-- All words are zeros, and a zero has no bit.
use Rattle.meaning.specs.Limits.{set_words_lem}
use Rattle.sets.proofs.Laws.{member-zeros}
use Rattle.sets.proofs.SymbolSet.empty.Goals as goal

pub returns : goal.returns
returns c = member-zeros set_words_lem
