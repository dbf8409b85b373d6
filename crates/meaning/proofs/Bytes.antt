-- Arities and pairs by index: what a file's lists hold at an index are the bytes that stand there in the file, since an arity takes one
-- byte and a pair six.
use mathlib.Core.Path.{◌≡◌, ap, ◌∙◌}
use mathlib.Core.List.{List}
use Prim.Native.Nat.{ℕ, zero, suc, ◌+◌, ◌*◌, ◌<◌}
use native.Mathlib.Nat.{not-suc-le-zero}
use native.Mathlib.Omega.{arith}
use lib.Seq.{get_or-take, get_or-drop}
use lib.ListN.{get_or, drop}
use Rattle.theory.specs.Pairs.{pair}
use Rattle.meaning.specs.File.{symbol_count_lem, pair_count_lem, pairs_at_lem, arities_in, pair_at, pairs_from, pairs_in}
use Rattle.meaning.specs.Tables.{arity_byte, pair_start}

-- pair k of n pairs from byte i on
pair_from_lem : (file : List ℕ) (n i k : ℕ) → k < n → get_or (pairs_from file i n) k (pair 0 0 0) ≡ pair_at file (i + 6 * k)
pair_from_lem file zero i k l = absurd (not-suc-le-zero l)
pair_from_lem file (suc n) i zero l = ap (pair_at file) (omega arith)
pair_from_lem file (suc n) i (suc k) l = pair_from_lem file n (i + 6) k (omega arith) ∙ ap (pair_at file) (omega arith)

-- LAW: pair k of a file is the one whose bytes start there
pub pair_in_lem : (file : List ℕ) (k : ℕ) → k < pair_count_lem file → get_or (pairs_in file) k (pair 0 0 0) ≡ pair_at file (pair_start file k)
unfolding pairs_in
pair_in_lem file k l = pair_from_lem file (pair_count_lem file) (pairs_at_lem (symbol_count_lem file)) k l

-- LAW: symbol a's arity is its byte
pub arity_in : (file : List ℕ) (a : ℕ) → a < symbol_count_lem file → get_or (arities_in file) a 0 ≡ arity_byte file a
unfolding arities_in
arity_in file a l = get_or-take (symbol_count_lem file) (drop 10 file) a 0 l ∙ get_or-drop 10 file a 0
