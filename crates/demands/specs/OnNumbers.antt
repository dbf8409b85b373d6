-- The writer that takes numbers, three to a pair, held against the writer that takes records, of which the demands are.
use Rattle.std.specs.Prelude.{◌≡◌, List, ℕ, ◌%◌, ◌≤◌, length}
use Rattle.meaning.specs.File.{pairs_of}
use Rattle.meaning.specs.Calls.{refused}
use Rattle.writer.specs.Said.{said}
use Rattle.demands.specs.Public.{Written, Calls, records_of}

-- It was refused by 2, 3 or 4, and the output is as it was.
pub record RefusedEarly (output : List ℕ) (w : Written) : Type 0 where
  pub n : ℕ
  pub place : ℕ
  pub from_two : 2 ≤ n
  pub to_four : n ≤ 4
  pub answers : said w.writing ≡ refused n place
  pub leaves : w.output ≡ output

pub record OnNumbers (C : Calls) : Type 0 where
  -- it returns and leaves what the other does for the pairs that the numbers give
  pub as_records : (arities numbers output : List ℕ) → C.write_table_lem arities numbers output ≡ C.write_records_lem arities (records_of (pairs_of numbers)) output
  -- and nothing is written where the last pair lacks a number
  pub unfinished : (arities numbers output : List ℕ) → (length numbers % 3 ≡ 0 → ⊥) → RefusedEarly output (C.write_table_lem arities numbers output)
