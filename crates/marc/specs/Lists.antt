-- What is said of list files: a file is at most one list's, or it has one first bad line, and never both.
use Rattle.std.specs.Prelude.{◌≡◌, List, ℕ}
use Rattle.marc.specs.Known.{Known}
use Rattle.marc.specs.ListFile.{ListFile, BadLine}

abbrev pub OneList : Type 0
OneList = (bytes : List ℕ) (heading absent : ℕ) (ks : List Known) (heading' absent' : ℕ) (ks' : List Known) → ListFile bytes heading absent ks → ListFile bytes heading' absent' ks'
    → (heading ≡ heading') × (absent ≡ absent') × (ks ≡ ks')

abbrev pub ListOrBad : Type 0
ListOrBad = (bytes : List ℕ) (heading absent : ℕ) (ks : List Known) (line : ℕ) → ListFile bytes heading absent ks → BadLine bytes line → ⊥

abbrev pub OneBadLine : Type 0
OneBadLine = (bytes : List ℕ) (line line' : ℕ) → BadLine bytes line → BadLine bytes line' → line ≡ line'
