-- The loop makes each word from the two words at its place, and `&` of two words is `and` of each bit.
use Rattle.std.proofs.Common.{rules, arith, refl, ◌&&◌, bit_and}
use Rattle.meaning.specs.Limits.{set_words_lem}
use Rattle.sets.proofs.Word.{and_bit}
use Rattle.sets.proofs.Making.{made_members}
use Rattle.sets.proofs.SymbolSet.intersect.Goals as goal

pub returns : goal.returns
returns c =
    made_members bit_and set_words_lem _ _ ◌&&◌ and_bit refl (search rules) (search rules) _ _ (omega arith) c.loop-i.invariant
