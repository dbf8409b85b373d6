-- What each turn of the loop keeps.
use mathlib.Core.Path.{◌≡◌}
use Prim.Native.Nat.{ℕ, ◌<◌}
use lib.ListN.{length, get_or}
use Rattle.near.specs.Near.{Alone, Unpaired}
use Rattle.near.proofs.open_sets.Given as goal

abbrev pub invariant-loop-symbol : goal.invariant-loop-symbol
invariant-loop-symbol l =
    (length l.near ≡ length l.initial.near)
    × ((j : ℕ) → j < length l.heading → Unpaired l.near (get_or l.heading j 0))
    × ((j : ℕ) → j < l.symbol-index → Alone l.near (get_or l.heading j 0))
