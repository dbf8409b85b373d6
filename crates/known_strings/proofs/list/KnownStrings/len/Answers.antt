-- The shorter of the two lists counts.
use native.Mathlib.Omega.{arith}
use Rattle.known_strings.proofs.Entries.{counted}
use Rattle.known_strings.proofs.list.KnownStrings.len.Goals as goal

pub returns : goal.returns
returns c =
    let n = counted c.args.self.text.now c.args.self.ends.now c.args.self.numbers.now in
    (omega arith, omega arith, omega (arith, n))
