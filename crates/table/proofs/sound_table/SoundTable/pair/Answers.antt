-- A pair of a sound file lies inside it, at the byte where the pairs of the file are read.
use mathlib.Core.Path.{◌≡◌, sym, ap, ◌∙◌}
use Prim.Native.Nat.{◌+◌, ◌*◌}
use native.Mathlib.Omega.{arith}
use Rattle.meaning.specs.File.{pair_at}
use Rattle.meaning.specs.Tables.{pair_start}
use Rattle.meaning.proofs.Bytes.{pair_in_lem}
use Rattle.table.proofs.Reading.{pair_inside, size_is}
use Rattle.table.proofs.sound_table.SoundTable.pair.Goals as goal

pub pair_from-requires : goal.pair_from-requires
pair_from-requires c =
    let sound = c.args.self.sound in
    omega (arith, size_is _ sound, pair_inside _ sound _ c.requires)

pub returns : goal.returns
returns c =
    let table = c.args.self in
    let file = table.file.now in
    let k = c.args.k in
    let start : 10 + table.symbols + 6 * k ≡ pair_start file k = omega (arith, size_is file table.sound) in
    c.pair_from.ensures ∙ ap (pair_at file) start ∙ sym (pair_in_lem file k c.requires)
