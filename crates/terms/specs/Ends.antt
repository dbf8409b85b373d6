-- Lists in which a subterm stands at an index.
use Rattle.std.specs.Prelude.{◌≡◌, List, Bool, ℕ, ◌≤◌, ◌<◌, length}
use Rattle.theory.specs.Table.{Table}
use Rattle.theory.specs.Read.{ends, walk}

-- The walk from index i ends after i and within the list.
pub record EndsIn (T : Table) (vars : Bool) (xs : List ℕ) (i : ℕ) : Type 0 where
  pub end : ℕ
  pub walked : walk T vars xs 64 i ≡ ends end
  pub after : i < end
  pub inside : end ≤ length xs
