-- Where a file's lists stand in its bytes: the symbols' arities after the header, then the pairs, whose numbers have two bytes each.
use mathlib.Core.Path.{◌≡◌, ap}
use mathlib.Core.List.{List}
use Prim.Native.Nat.{ℕ, zero, suc, ◌+◌, ◌-◌, ◌<◌}
use native.Mathlib.Omega.{arith}
use lib.ListN.{get_or, take, drop}
use Rattle.theory.specs.Pairs.{pair}
use Rattle.meaning.specs.File.{number, symbol_count_lem, arities_in, pairs_from}
use Rattle.table.proofs.Rising.{Short}

-- LAW: the part of the file that is lent as its arities
pub arities_part : (file : List ℕ) (s : ℕ) → s ≡ symbol_count_lem file → take (10 + s - 10) (drop 10 file) ≡ arities_in file
unfolding arities_in
arities_part file s e = let n : 10 + s - 10 ≡ symbol_count_lem file = omega arith in ap (λ n. take n (drop 10 file)) n

module _ (file : List ℕ) (bytes : (i : ℕ) → get_or file i 0 < 256) where
  -- LAW: a number of two bytes
  pub number_small : (i : ℕ) → number file i < 65536
  number_small i = omega (arith, bytes i, bytes (i + 1))

  -- LAW: so have the pairs from any byte on
  pub short_from : (n i j : ℕ) → Short (get_or (pairs_from file i n) j (pair 0 0 0))
  short_from zero i j = omega arith
  short_from (suc n) i zero = number_small (i + 2)
  short_from (suc n) i (suc j) = short_from n (i + 6) j
