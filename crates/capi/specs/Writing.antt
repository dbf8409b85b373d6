-- The table writer: what it promises for everything that can be lent to it.
use Rattle.std.specs.Prelude.{◌≡◌, List, ℕ}
use Rattle.meaning.specs.Calls.{written, later_output}
use Rattle.table.specs.declared.read.Pair.{Pair}
use Rattle.records.specs.Records.{listed}
use Rattle.capi.specs.Answers.{coded, later_number}

-- ---- 7. The table writer.

pub record ShxWriteTable (arities : List ℕ) (records : List Pair) (output : List ℕ) (total r : ℕ) (output' : List ℕ) (total' : ℕ) : Type 0 where
  pub answers : r ≡ coded (written arities (listed records) output)
  pub output-later : output' ≡ later_output arities (listed records) output
  pub total-later : total' ≡ later_number (written arities (listed records) output) total
