-- What each turn of the loop keeps.
use mathlib.Core.Path.{◌≡◌}
use Prim.Native.Nat.{◌-◌, ◌<◌}
use Rattle.known_strings.specs.Lent.{string_in, RisesTo}
use Rattle.known_strings.proofs.check.rises.Given as goal

abbrev pub invariant-loop-j : goal.invariant-loop-j
invariant-loop-j l = (0 < l.j → l.last ≡ string_in l.known.text.now l.known.ends.now (l.j - 1)) × RisesTo l.known.text.now l.known.ends.now l.j
