-- The pairs of bytes are read from them: pair k has its three numbers from byte 6k on.
use mathlib.Core.Path.{◌≡◌, ap, ◌∙◌}
use mathlib.Core.List.{List}
use Prim.Native.Nat.{ℕ, zero, suc, ◌+◌, ◌*◌, ◌^◌, ◌≤◌, ◌<◌}
use native.Mathlib.Nat.{not-suc-le-zero}
use native.Mathlib.Omega.{arith}
use lib.ListN.{length, get_or}
use Rattle.theory.specs.Pairs.{pair}
use Rattle.meaning.specs.File.{number, pair_at, pairs_from}
use Rattle.table.specs.Runs.{pair_of}
use Rattle.table.proofs.Pairs.{short_from}
use Rattle.pairs.specs.Reads.{Reads}

pair_from : (bytes : List ℕ) (i n k : ℕ) → k < n → get_or (pairs_from bytes i n) k (pair 0 0 0) ≡ pair_at bytes (i + 6 * k)
pair_from bytes i zero k l = absurd (not-suc-le-zero l)
pair_from bytes i (suc n) zero l = ap (pair_at bytes) (omega arith)
pair_from bytes i (suc n) (suc k) l = pair_from bytes (i + 6) n k (omega arith) ∙ ap (pair_at bytes) (omega arith)

-- LAW: so bytes are read as the pairs from a byte on
pub bytes_read : (bytes : List ℕ) (from pairs : ℕ) → ((i : ℕ) → get_or bytes i 0 < 256) → from + 6 * pairs ≤ length bytes → length bytes < 2 ^ 63
    → Reads (λ i. number bytes (from + 2 * i)) (pairs_from bytes from pairs) pairs
bytes_read bytes from pairs small inside few = record { are = are; short = short_from bytes small pairs from; fits = omega arith }
  where
    are : (k : ℕ) → k < pairs → get_or (pairs_from bytes from pairs) k (pair 0 0 0) ≡ pair_of (λ i. number bytes (from + 2 * i)) k
    are k l =
        let a : from + 2 * (3 * k) ≡ from + 6 * k = omega arith in
        let b : from + 2 * (3 * k + 1) ≡ from + 6 * k + 2 = omega arith in
        let c : from + 2 * (3 * k + 2) ≡ from + 6 * k + 4 = omega arith in
        rw (c, b, a) (pair_from bytes from pairs k l)
