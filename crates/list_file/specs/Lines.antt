-- What is read where a line has to begin.
use Rattle.std.specs.Prelude.{◌≡◌, List, ◌++◌, ℕ}
use Rattle.marc.specs.Known.{known}
use Rattle.marc.specs.ListFile.{Numbered, Listable, line_of, first_line_lem}

-- The first line has these two numbers, and this stands behind it.
pub record Firsts (file : List ℕ) (heading absent : ℕ) (rest : List ℕ) : Type 0 where
  pub heading_fits : Numbered heading
  pub absent_fits : Numbered absent
  pub written : file ≡ first_line_lem heading absent ++ rest

-- The line with this number and string stands there, and this behind it.
pub record Strings (bytes : List ℕ) (number : ℕ) (string rest : List ℕ) : Type 0 where
  pub fits : Listable (known string number)
  pub written : bytes ≡ line_of (known string number) ++ rest
