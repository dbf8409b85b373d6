-- In memory that is not yet written no near set is gathered.
use native.Mathlib.Omega.{arith}
use lib.ListN.{length-replicate}
use Prim.Native.Nat.{ℕ}
use Rattle.meaning.specs.File.{table_in}
use Rattle.matches.proofs.Unwritten.{none_gathered}
use Rattle.matches.proofs.memory.search_in.Goals as goal

pub search-requires-clause-fresh : goal.search-requires-clause-fresh
search-requires-clause-fresh g c =
    (none_gathered (table_in c.args.asked.table.file.now) g.row.NEAR c.requires.of_near.0, omega (arith, c.requires.of_index.0, length-replicate {A = ℕ} g.row.INDEX 1))
