-- The file's first two numbers are its counts, and a sound file has as many arities as symbols.
use mathlib.Core.Path.{sym, ◌∙◌}
use native.Mathlib.Omega.{arith}
use Rattle.meaning.proofs.Sound.{passed, sound}
use Rattle.table.proofs.Reading.{size_is}
use Rattle.table.proofs.sound_table.SoundTable.new.Goals as goal

pub number_at-requires : goal.number_at-requires
number_at-requires c = omega (arith, (passed _ c.requires).long)

pub number_at-requires-2 : goal.number_at-requires-2
number_at-requires-2 c = omega (arith, (passed _ c.requires).long)

pub invariant_of-result : goal.invariant_of-result
invariant_of-result c =
    let count = c.number_at.ensures ∙ sym (size_is _ c.requires) in
    record { sound = c.requires; symbols_are = count; pairs_are = c.number_at-2.ensures; few = omega (arith, count, (sound _ c.requires).small) }
