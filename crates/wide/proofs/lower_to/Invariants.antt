-- The numbers below s are lowered, and the others are as they were.
use Rattle.std.proofs.Common.{◌≡◌, ℕ, ◌<◌, ◌≤◌, min, length, get_or}
use Rattle.wide.proofs.lower_to.Given as goal

abbrev pub invariant-loop-s : goal.invariant-loop-s
invariant-loop-s l =
    (length l.least ≡ length l.initial.least)
    × ((t : ℕ) → t < l.s → get_or l.least t 0 ≡ min (get_or l.initial.least t 0) (get_or l.row t 0))
    × ((t : ℕ) → l.s ≤ t → get_or l.least t 0 ≡ get_or l.initial.least t 0)
