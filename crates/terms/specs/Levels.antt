-- The levels of a term that is being read, the outermost first, each with how many of its subterms are still to be read.
use Rattle.std.specs.Prelude.{◌≡◌, List, ℕ, ◌+◌, ◌-◌, ◌≤◌, ◌<◌, get_or, Option, None, Some}

-- Of the first `depth` levels the first `kept` stay open: on the others nothing is left, and something is on the last that stays.
pub record StayOpen (levels : List ℕ) (depth kept : ℕ) : Type 0 where
  pub within : kept ≤ depth
  pub done : (d : ℕ) → kept ≤ d → d < depth → get_or levels d 0 ≡ 0
  pub last : 0 < kept → 0 < get_or levels (kept - 1) 0

-- How many levels stay open, by the last of them.
abbrev pub up_to : Option ℕ → ℕ
up_to None = 0
up_to (Some last) = last + 1
