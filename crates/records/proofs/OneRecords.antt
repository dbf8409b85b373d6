-- The promise allows one answer and one later output, and what was written is a table that reads back: the promise is the meaning's equation, of
-- which both are known.
use mathlib.Core.Path.{◌≡◌, sym, ◌∙◌}
use mathlib.Core.List.{List, ◌++◌}
use Prim.Native.Nat.{ℕ, ◌≤◌}
use lib.ListN.{length, drop}
use Rattle.std.specs.Prelude.{Result, Ok}
use Rattle.refusal.specs.declared.Refusal.{Refusal}
use Rattle.meaning.specs.File.{arities_in, pairs_in}
use Rattle.meaning.specs.Refusals.{SoundFile}
use Rattle.meaning.specs.Tables.{Bytes, Writes}
use Rattle.table.specs.declared.read.Pair.{Pair}
use Rattle.writer.specs.Said.{said}
use Rattle.writer.proofs.Answers.{one_said, read_back, written_again}
use Rattle.records.specs.Records.{listed, WriteRecords}

module _ (arities : List ℕ) (records : List Pair) (output : List ℕ) where
  -- THEOREM: any two results that the promise allows are equal, and so are the later outputs
  pub one_writing : (r s : Result ℕ Refusal) (later after : List ℕ) → WriteRecords arities records output r later → WriteRecords arities records output s after
      → (r ≡ s) × (later ≡ after)
  one_writing r s later after p q = (one_said r s (p.answers ∙ sym q.answers), p.leaves ∙ sym q.leaves)

  -- THEOREM: what was written is a table, which reads back to the same arities and pairs; all else stays
  pub writes_back : (r : Result ℕ Refusal) (later : List ℕ) → WriteRecords arities records output r later
      → Writes arities (listed records) output (record { answer = said r; output = later })
  writes_back r later p = read_back arities (listed records) output r later p.answers p.leaves

-- THEOREM: records that were read from a table are written as the table's own bytes
pub writes_again : (table output : List ℕ) → Bytes table → SoundFile table → length table ≤ length output → (records : List Pair) → listed records ≡ pairs_in table
    → (r : Result ℕ Refusal) (later : List ℕ) → WriteRecords (arities_in table) records output r later
    → (r ≡ Ok (length table)) × (later ≡ table ++ drop (length table) output)
writes_again table output b s l records same r later p = written_again table output b s l (listed records) same r later p.answers p.leaves
