-- Memory as it is before anything is written: it has room for what a table asks for, and no near set is gathered in it.
use mathlib.Core.List.{List}
use mathlib.Core.Bool.{Bool, true, false, cond}
use Prim.Native.Nat.{ℕ, ◌+◌, ◌*◌, ◌≤◌}
use native.Mathlib.Omega.{arith}
use lib.Dec.{leb}
use lib.ListN.{replicate, length-replicate, get_or-replicate}
use Rattle.theory.specs.Table.{Table}
use Rattle.meaning.specs.Limits.{set_words_lem}
use Rattle.meaning.specs.File.{pair_count_lem, table_in}
use Rattle.near.specs.Near.{near_words, kept, Fresh}
use Rattle.wide.specs.Index.{kept_rows, small_table, index_room}

-- LAW: near sets for n words, of which none is gathered
pub none_gathered : (T : Table) (n : ℕ) → near_words * T.size ≤ n → Fresh T (replicate n 1)
unfolding kept
none_gathered T n enough =
    record {
      room = omega (arith, length-replicate {A = ℕ} n 1);
      none = λ h l. get_or-replicate n (near_words * h + set_words_lem) 1 0 (omega arith);
    }

-- what a table keeps takes no more than so much, and a small one keeps nothing
kept_most : (small : Bool) (n : ℕ) → cond small 0 n ≤ n
kept_most true n = omega arith
kept_most false n = omega arith

-- LAW: an index for so many symbols and pairs
pub index_room_lem : (file : List ℕ) (s p n : ℕ) → (table_in file).size ≤ s → pair_count_lem file ≤ p → 3 * s + 1 + p + kept_rows * (s + 1) ≤ n → index_room file ≤ n
index_room_lem file s p n a b enough =
    omega (arith, kept_most (leb (table_in file).size small_table) (kept_rows * ((table_in file).size + 1)))
