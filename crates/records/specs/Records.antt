-- The table writer, on pair records: what it promises for everything that can be lent to it.
use Rattle.std.specs.Prelude.{◌≡◌, List, map, ℕ, Result}
use Rattle.theory.specs.Pairs.{Pair as ListedPair}
use Rattle.meaning.specs.Calls.{written, later_output}
use Rattle.refusal.specs.declared.Refusal.{Refusal}
use Rattle.table.specs.Read.{pair_in}
use Rattle.table.specs.declared.read.Pair.{Pair}
use Rattle.writer.specs.Said.{said}

-- The pairs that the records give.
abbrev pub listed : List Pair → List ListedPair
listed records = map pair_in records

pub record WriteRecords (arities : List ℕ) (records : List Pair) (output : List ℕ) (r : Result ℕ Refusal) (later : List ℕ) : Type 0 where
  pub answers : said r ≡ written arities (listed records) output
  pub leaves : later ≡ later_output arities (listed records) output

-- what is read past a list's end
abbrev pub none : Pair
none = record { lower = 0; higher = 0; degree = 0 }
