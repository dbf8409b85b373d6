-- The first pair's lower symbol is one of the table, and so has its two numbers in the list.
use native.Mathlib.Omega.{arith}
use Rattle.degrees.proofs.Listed.{pair_symbols}
use Rattle.degrees.proofs.rows.are_laid.Goals as goal

pub bounds-rows-lower_of : goal.bounds-rows-lower_of
bounds-rows-lower_of c =
    let t = c.args.table in
    omega (arith, (pair_symbols t.file.now t.sound 0 (omega (arith, t.pairs_are))).0, c.lower_of.ensures, c.requires.room)
