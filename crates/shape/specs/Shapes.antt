-- What taking a question apart comes to.
use Rattle.std.specs.Prelude.{◌≡◌, List, Option, None, Some, ℕ, ◌+◌, ◌*◌, ◌≤◌, length}
use Rattle.std.proofs.Math.Option.{none, some as just}
use Rattle.meaning.specs.File.{number}
use Rattle.meaning.specs.Refusals.{row, row12}
use Rattle.meaning.specs.Program.{cut_in}
use Rattle.shape.specs.declared.parts.Header.{Header}

-- The offsets and the total are what the counts of nodes ask for, and what is left is the table, which may have no bytes.
abbrev pub WellPlaced : List ℕ → Type 0
WellPlaced input =
    let heading_at = 14 + 2 * number input 2 in
    let table_at = heading_at + 2 * number input 4 in
    (number input 6 ≡ 14) × (number input 8 ≡ heading_at) × (number input 10 ≡ table_at) × (number input 12 ≡ length input) × (table_at ≤ length input)

-- The question is not refused by 12, and its header has these numbers.
pub record HeaderBy (input : List ℕ) (header : Header) : Type 0 where
  pub accepted : row12 input ≡ row 12 none
  pub cut_is : header.cut ≡ cut_in input
  pub pattern_is : header.pattern ≡ number input 2
  pub heading_is : header.heading ≡ number input 4

-- Misshapen is refusal 12 at place 0.
abbrev pub ShapedBy : List ℕ → Option Header → Type 0
ShapedBy input None = row12 input ≡ row 12 (just 0)
ShapedBy input (Some header) = HeaderBy input header
