-- Where among the pairs of a table one is sought.
use Rattle.std.specs.Prelude.{◌≡◌, List, ℕ, ◌≤◌, ◌<◌}
use Rattle.meaning.specs.Tables.{lower_at, higher_at}
use Rattle.table.specs.Keys.{key_of}

-- The key of pair k.
abbrev pub key_at : List ℕ → ℕ → ℕ
key_at file k = key_of (lower_at file k) (higher_at file k)

-- Of n places each that has the key sought, if any has, is one from `low` to below `high`.
pub record Between (key : ℕ → ℕ) (n wanted low high : ℕ) : Type 0 where
  pub within : high ≤ n
  pub stands : (k : ℕ) → k < n → key k ≡ wanted → (low ≤ k) × (k < high)
