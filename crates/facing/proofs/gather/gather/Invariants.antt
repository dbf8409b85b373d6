-- What each turn of the loop keeps.
use mathlib.Core.Path.{◌≡◌}
use Prim.Native.Nat.{◌≤◌}
use lib.ListN.{length}
use Rattle.facing.specs.Notes.{numbers_of}
use Rattle.facing.proofs.Gathering.{Gathering}
use Rattle.facing.proofs.gather.gather.Given as goal

abbrev pub invariant-loop-i : goal.invariant-loop-i
invariant-loop-i l =
    (l.i ≤ length l.pattern) × (length l.own ≡ length l.initial.own) × Gathering l.pattern (numbers_of l.notes) l.v (numbers_of l.own) l.count l.i
