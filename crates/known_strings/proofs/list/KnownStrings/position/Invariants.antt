-- What each turn of the loop keeps: where the string begins that comes next, and that none before it is the one.
use mathlib.Core.Path.{◌≡◌}
use mathlib.Core.Bool.{false}
use Prim.Native.Nat.{ℕ, ◌<◌}
use Rattle.known_strings.specs.Lent.{begin_of_lem, is_string}
use Rattle.known_strings.proofs.list.KnownStrings.position.Given as goal

abbrev pub invariant-loop-j : goal.invariant-loop-j
invariant-loop-j l =
    (l.start ≡ begin_of_lem l.self.ends.now l.j) × ((i : ℕ) → i < l.j → is_string l.self.text.now l.self.ends.now l.string i ≡ false)
