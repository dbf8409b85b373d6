-- The first element that passes a test stands at the least index that passes it: none before it does, and it does.
use mathlib.Core.Path.{◌≡◌}
use mathlib.Core.Bool.{Bool, false, not}
use mathlib.Core.List.{List}
use Prim.Native.Nat.{ℕ, ◌<◌}
use native.Mathlib.Omega.{arith}
use native.Mathlib.Decide.{dec_lt}
use borrow.Author.Tests.{lt-ltb, le-ltb, not-false, not-true}
use lib.ListN.{length, get_or}
use Rattle.std.specs.List.{position, prefix_len}
use Rattle.std.proofs.lemmas.List.Sums.{prefix_len_passes, prefix_len_stops, prefix_len-le-length}
use Rattle.theory.specs.Least.{least_below}
use Rattle.meaning.proofs.First.{none_below, least_at}
use Rattle.table.specs.Places.{place_in}

module _ (b : ℕ → Bool) (xs : List ℕ) where
  abbrev fails : ℕ → Bool
  fails x = not (b x)

  abbrev n : ℕ
  n = prefix_len fails xs

  before : (k : ℕ) → k < n → b (get_or xs k 0) ≡ false
  before k l = not-true _ (prefix_len_passes fails xs k 0 l)

  -- LAW: the position of the first that passes is the least index that does
  pub least_position : least_below (length xs) (λ k. b (get_or xs k 0)) ≡ place_in (position b xs)
  least_position = go (dec_lt n (length xs))
    where
      go : Dec (n < length xs) → least_below (length xs) (λ k. b (get_or xs k 0)) ≡ place_in (position b xs)
      go (yes l) =
          rw (lt-ltb n (length xs) l)
          (least_at (λ k. b (get_or xs k 0)) n (length xs) (none_below (λ k. b (get_or xs k 0)) n before) (not-false _ (prefix_len_stops fails xs 0 l)) l)
      go (no m) =
          rw (le-ltb n (length xs) (omega arith))
          (none_below (λ k. b (get_or xs k 0)) (length xs) (λ k l. before k (omega (arith, prefix_len-le-length fails xs))))
