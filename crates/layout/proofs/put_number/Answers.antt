-- What is copied is the number's two bytes, the low one first.
use mathlib.Core.Path.{◌≡◌}
use Prim.Native.Nat.{◌/◌, ◌%◌}
use native.Mathlib.Omega.{arith}
use Rattle.meaning.specs.File.{bytes_of}
use Rattle.layout.proofs.Bytes.{over_copied}
use Rattle.layout.proofs.put_number.Goals as goal

pub returns : goal.returns
returns c =
    let high : c.args.n / 256 % 256 ≡ c.args.n / 256 = omega arith in
    over_copied c.args.output.now c.args.at _ (bytes_of c.args.n) (cc) (omega arith)
