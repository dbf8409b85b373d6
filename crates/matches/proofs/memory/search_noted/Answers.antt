-- The memory has room for as many symbols and pairs as the table may have.
use native.Mathlib.Omega.{arith}
use Rattle.meaning.proofs.Recognised.{recognised}
use Rattle.matches.proofs.Unwritten.{index_room_lem}
use Rattle.matches.proofs.memory.search_noted.Goals as goal

pub search_in-requires-then-table-le-MORE_SYMBOLS-clause-of_index : goal.search_in-requires-then-table-le-MORE_SYMBOLS-clause-of_index
search_in-requires-then-table-le-MORE_SYMBOLS-clause-of_index g c =
    let t = c.args.asked.table in
    (index_room_lem t.file.now 256 8192 17185 (omega arith) ((recognised t.file.now).0 t.sound).few_pairs_lem (omega arith), omega arith)

pub search_in-requires-else-table-le-MORE_SYMBOLS-clause-of_index : goal.search_in-requires-else-table-le-MORE_SYMBOLS-clause-of_index
search_in-requires-else-table-le-MORE_SYMBOLS-clause-of_index g c =
    let t = c.args.asked.table in
    (index_room_lem t.file.now 512 8192 26145 (omega arith) ((recognised t.file.now).0 t.sound).few_pairs_lem (omega arith), omega arith)
