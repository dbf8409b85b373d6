-- Once the three numbers are what the counts ask for, the last test is whether the total is the file's length.
use borrow.Author.Tests.{eq-eqb}
use mathlib.Core.Path.{◌≡◌, ap}
use mathlib.Core.Bool.{not}
use Prim.Native.Nat.{◌+◌, ◌*◌}
use native.Mathlib.Omega.{arith}
use lib.Dec.{eqb}
use lib.ListN.{length}
use Rattle.meaning.specs.File.{number, pairs_at_lem, total}
use Rattle.meaning.specs.Refusals.{row, at0, row1_offsets}
use Rattle.sound.proofs.well_placed.Goals as goal

pub returns : goal.returns
unfolding row1_offsets
returns c =
    let f = c.args.file.now in
    let same : number f 8 ≡ 10 + c.args.symbols + 6 * c.args.pairs = omega arith in
    rw (eq-eqb (number f 4) 10 (omega arith), eq-eqb (number f 6) (pairs_at_lem (number f 0)) (omega arith), eq-eqb (number f 8) (total (number f 0) (number f 2)) (omega arith))
    (ap (λ t. row 1 (at0 (not (eqb t (length f))))) same)
