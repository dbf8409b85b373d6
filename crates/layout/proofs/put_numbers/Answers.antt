-- A number more, by its two bytes.
use mathlib.Core.Path.{ap, ◌∙◌}
use Prim.Native.Nat.{◌+◌, ◌*◌}
use native.Mathlib.Omega.{arith}
use lib.ListN.{get_or}
use Rattle.meaning.specs.File.{bytes_of}
use Rattle.meaning.specs.Over.{over}
use Rattle.meaning.proofs.Over.{over_none}
use Rattle.layout.proofs.Bytes.{number_more}
use Rattle.layout.proofs.put_numbers.Goals as goal

pub loop-i-init : goal.loop-i-init
loop-i-init c = over_none c.args.output.now c.args.at

pub loop-i-preserved : goal.loop-i-preserved
loop-i-preserved c =
    let a = c.args in
    let i = c.loop-i.i in
    let ns = c.args.numbers.now in
    c.put_number.ensures
    ∙ ap (λ l. over l (a.at + 2 * i) (bytes_of (get_or ns i 0))) c.loop-i.invariant
    ∙ number_more a.output.now a.at ns i (omega arith) (omega arith)
