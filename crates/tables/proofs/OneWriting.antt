-- The writer's promise allows one answer and one later output, and what it wrote is a table that reads back: the promise is the meaning's
-- equation, of which both are known.
use mathlib.Core.Path.{◌≡◌, sym, ◌∙◌}
use mathlib.Core.List.{List, ◌++◌}
use Prim.Native.Nat.{ℕ, ◌≤◌}
use lib.ListN.{length, drop}
use Rattle.std.specs.Prelude.{Result, Ok}
use Rattle.refusal.specs.declared.Refusal.{Refusal}
use Rattle.meaning.specs.File.{pairs_of, numbers_of_lem, arities_in, pairs_in}
use Rattle.meaning.specs.Refusals.{SoundFile}
use Rattle.meaning.specs.Tables.{Bytes, Writes}
use Rattle.writer.specs.Said.{said}
use Rattle.writer.proofs.Numbers.{pairs_of_numbers}
use Rattle.writer.proofs.Answers.{one_said, read_back, written_again}
use Rattle.tables.specs.Writing.{WriteTable}

module _ (arities numbers output : List ℕ) where
  -- THEOREM: any two results that the promise allows are equal, and so are the later outputs
  pub one_writing : (r s : Result ℕ Refusal) (later after : List ℕ) → WriteTable arities numbers output r later → WriteTable arities numbers output s after
      → (r ≡ s) × (later ≡ after)
  one_writing r s later after p q = (one_said r s (p.answers ∙ sym q.answers), p.leaves ∙ sym q.leaves)

  -- THEOREM: what was written is a table, which reads back to the same arities and pairs; all else stays
  pub writes_back : (r : Result ℕ Refusal) (later : List ℕ) → WriteTable arities numbers output r later
      → Writes arities (pairs_of numbers) output (record { answer = said r; output = later })
  writes_back r later p = read_back arities (pairs_of numbers) output r later p.answers p.leaves

-- THEOREM: what was read from a table is written as the table's own bytes
pub writes_again : (table output : List ℕ) → Bytes table → SoundFile table → length table ≤ length output
    → (r : Result ℕ Refusal) (later : List ℕ) → WriteTable (arities_in table) (numbers_of_lem (pairs_in table)) output r later
    → (r ≡ Ok (length table)) × (later ≡ table ++ drop (length table) output)
writes_again table output b s l r later p = written_again table output b s l (pairs_of (numbers_of_lem (pairs_in table))) (pairs_of_numbers (pairs_in table)) r later p.answers p.leaves
