-- The pairs that records give: one for each record, in the same order.
use mathlib.Core.Path.{◌≡◌, refl}
use mathlib.Core.List.{List, [], ◌∷◌}
use Prim.Native.Nat.{ℕ, zero, suc}
use lib.ListN.{length, get_or, length-map}
use Rattle.theory.specs.Pairs.{pair}
use Rattle.table.specs.Read.{pair_in}
use Rattle.table.specs.declared.read.Pair.{Pair}
use Rattle.records.specs.Records.{listed, none}

pub length-listed : (records : List Pair) → length (listed records) ≡ length records
length-listed records = length-map records pair_in

pub listed_at : (records : List Pair) (k : ℕ) → get_or (listed records) k (pair 0 0 0) ≡ pair_in (get_or records k none)
listed_at [] k = refl
listed_at (r ∷ records) zero = refl
listed_at (r ∷ records) (suc k) = listed_at records k
