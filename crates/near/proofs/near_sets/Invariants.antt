-- What each turn of the loop keeps.
use mathlib.Core.Path.{◌≡◌}
use Prim.Native.Nat.{ℕ, ◌<◌}
use lib.ListN.{length, get_or}
use Rattle.near.proofs.Nearness.{NearTo}
use Rattle.near.proofs.near_sets.Given as goal

abbrev pub invariant-loop-k : goal.invariant-loop-k
invariant-loop-k l =
    (length l.near ≡ length l.initial.near)
    × ((i : ℕ) → i < length l.heading → NearTo l.table.file.now l.cut l.k l.near (get_or l.heading i 0))
