-- Bytes that were read and are not used yet, and how reading more goes on with them.
use Rattle.std.specs.Prelude.{◌≡◌, List, ◌++◌, ℕ, ◌-◌, ◌≤◌, length, take, drop}
use Rattle.input.specs.declared.unread.Unread.{Unread}

-- The bytes of a buffer from `at` up to `end`.
abbrev pub unread : List ℕ → ℕ → ℕ → List ℕ
unread buffer at end = take (end - at) (drop at buffer)

-- The bytes from `at` up to `end` stand in the buffer afterwards too, with those that were read behind them. Where as many are there as are
-- wanted, nothing is read or moved.
pub record ReadBy (before : List ℕ) (at end wanted : ℕ) (now : Unread) (after : List ℕ) : Type 0 where
  pub within : now.end ≤ length before
  pub more : List ℕ
  pub follows : unread after now.at now.end ≡ unread before at end ++ more
  pub still : wanted ≤ end - at → (now.at ≡ at) × (now.end ≡ end) × (after ≡ before)
