-- `lowest` and `highest` are those of the numbers so far, if f says what these are.
use Rattle.std.proofs.Common.{◌≡◌, ℕ, ◌<◌, length, get_or}
use Rattle.wide.specs.Shared.{lowest_from, highest_from}
use Rattle.wide.proofs.rate.Given as goal

abbrev pub invariant-loop-degree : goal.invariant-loop-degree
invariant-loop-degree l =
    (f : ℕ → ℕ)
    → ((s : ℕ) → s < length l.least → get_or l.least s 0 ≡ f s)
    → (l.lowest ≡ lowest_from l.floor l.degree-index f) × (l.highest ≡ highest_from l.floor l.degree-index f)
