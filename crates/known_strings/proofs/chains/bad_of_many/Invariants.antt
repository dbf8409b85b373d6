-- What each turn of the loop keeps.
use mathlib.Core.Path.{◌≡◌}
use mathlib.Core.Bool.{true}
use Prim.Native.Nat.{◌+◌, ◌-◌, ◌≤◌, ◌<◌}
use Rattle.known_strings.specs.Lent.{bad_in}
use Rattle.known_strings.specs.Chains.{block_size, FineTo}
use Rattle.known_strings.proofs.chains.bad_of_many.Given as goal

abbrev pub invariant-loop-end : goal.invariant-loop-end
invariant-loop-end l =
    (l.from ≤ l.end) × (l.end ≤ l.n) × FineTo l.known.text.now l.known.ends.now l.known.numbers.now l.absent 0 (l.from + block_size) l.end × (l.end < l.n → bad_in l.known.text.now l.known.ends.now l.known.numbers.now l.absent l.end ≡ true)

abbrev pub decreases-loop-end : goal.decreases-loop-end
decreases-loop-end l = l.end - l.from
