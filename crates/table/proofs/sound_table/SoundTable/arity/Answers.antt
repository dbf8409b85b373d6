-- The byte at a symbol's place is its arity, and no arity of a sound file is above the limit.
use mathlib.Core.Path.{sym}
use native.Mathlib.Omega.{arith}
use Rattle.table.proofs.Reading.{arity_inside, arity_is, arity_most}
use Rattle.table.proofs.sound_table.SoundTable.arity.Goals as goal

pub bounds-self-symbol : goal.bounds-self-symbol
bounds-self-symbol c = omega (arith, arity_inside _ c.args.self.sound _ c.requires)

pub returns : goal.returns
returns c =
    let sound = c.args.self.sound in
    let is = arity_is _ sound _ c.requires in
    (sym is, omega (arith, is, arity_most _ sound _ c.requires))
