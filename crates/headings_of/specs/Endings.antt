-- What comes of a run: by the list in a file, or by its bad line.
use Rattle.std.specs.Prelude.{◌≡◌, List, Result, Ok, Err, ℕ}
use Rattle.marc.specs.Known.{Known}
use Rattle.marc.specs.ListFile.{ListFile, BadLine as IsBadLine}
use Rattle.marc_input.specs.Passing.{uncounted}
use Rattle.output.specs.declared.pending.Failed.{Failed}
use Rattle.headings_of.specs.declared.answering.Turn.{Turn}
use Rattle.headings_of.specs.declared.Halt.{Halt}
use Rattle.headings_of.specs.declared.Halt.TheVariants.{BadLine, Unwritten}
use Rattle.headings_of.specs.Turns.{TurnsBy}

-- A list's file: its strings decide what is said of the input.
pub record ListSays (file before : List ℕ) (r : Result Turn Failed) (buffer after : List ℕ) : Type 0 where
  pub heading : ℕ
  pub absent : ℕ
  pub ks : List Known
  pub is : ListFile file heading absent ks
  pub turns : TurnsBy heading absent ks uncounted buffer before r after

-- A file of another shape: its bad line, and nothing is said.
abbrev pub EndingBy : (file before : List ℕ) → Result Turn Halt → (buffer after : List ℕ) → Type 0
EndingBy file before (Ok turn) buffer after = ListSays file before (Ok turn) buffer after
EndingBy file before (Err (Unwritten failed)) buffer after = ListSays file before (Err failed) buffer after
EndingBy file before (Err (BadLine line)) buffer after = IsBadLine file line × (after ≡ before)
