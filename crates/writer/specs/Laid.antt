-- Pairs laid out as numbers.
use Rattle.std.specs.Prelude.{◌≡◌, List, ℕ, ◌*◌, ◌≤◌, length, take}
use Rattle.theory.specs.Pairs.{Pair}
use Rattle.meaning.specs.Limits.{most_pairs}
use Rattle.meaning.specs.File.{numbers_of_lem}

-- The list begins with the numbers of these pairs, unless they are more than a table may have.
abbrev pub Laid : List ℕ → List Pair → Type 0
Laid numbers pairs = length pairs ≤ most_pairs → take (3 * length pairs) numbers ≡ numbers_of_lem pairs
