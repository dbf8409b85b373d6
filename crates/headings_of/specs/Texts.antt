-- What is said of a record.
use Rattle.std.specs.Prelude.{List, ◌++◌, ℕ}
use Rattle.marc.specs.Known.{Known}
use Rattle.marc.specs.Printed.{record_line, answer_text}

-- of record k: the line with its number, and the line with its answer
abbrev pub record_text : ℕ → ℕ → List Known → ℕ → List ℕ → List ℕ
record_text heading absent ks k bytes = record_line k ++ answer_text heading absent ks bytes
