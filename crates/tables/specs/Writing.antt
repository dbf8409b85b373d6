-- The table writer, on numbers, three to a pair: what it promises for everything that can be lent to it.
use Rattle.std.specs.Prelude.{◌≡◌, List, ℕ, Result}
use Rattle.meaning.specs.File.{pairs_of}
use Rattle.meaning.specs.Calls.{written, later_output}
use Rattle.writer.specs.Said.{said}
use Rattle.refusal.specs.declared.Refusal.{Refusal}

-- ---- 7. The table writer: its answer, and what the output holds later.

pub record WriteTable (arities numbers output : List ℕ) (r : Result ℕ Refusal) (later : List ℕ) : Type 0 where
  pub answers : said r ≡ written arities (pairs_of numbers) output
  pub leaves : later ≡ later_output arities (pairs_of numbers) output
