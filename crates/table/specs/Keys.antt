-- The two symbols of a pair as one number: the lower symbol decides first, then the higher.
use Rattle.std.specs.Prelude.{List, ℕ, zero, suc, ◌+◌, ◌*◌, get_or}
use Rattle.theory.specs.Pairs.{Pair, pair}

abbrev pub key_of : ℕ → ℕ → ℕ
key_of lower higher = lower * 65536 + higher

abbrev pub pair_key : Pair → ℕ
pair_key (pair lower higher degree) = key_of lower higher

-- the key of the pair before the one at k; 0, below every key of a pair that may be listed, before the first
abbrev pub key_before_lem : List Pair → ℕ → ℕ
key_before_lem pairs zero = 0
key_before_lem pairs (suc k) = pair_key (get_or pairs k (pair 0 0 0))
