-- The entries of a directory, one behind the other.
use Rattle.std.specs.Prelude.{List, Bool, ℕ, ◌*◌, nat_eq, take, drop}
use Rattle.std.specs.List.{starts_with}
use Rattle.marc.specs.Heading.{tag100}

-- Whether entry k has the tag 100.
abbrev pub tagged : List ℕ → ℕ → Bool
tagged directory k = starts_with nat_eq (take 12 (drop (k * 12) directory)) tag100
