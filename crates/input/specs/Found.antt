-- What was found next, in a buffer that holds bytes that are not used yet.
use Rattle.std.specs.Prelude.{List, ◌++◌, ℕ, ◌≤◌, length}
use Rattle.input.specs.declared.batch.Next.{Next}
use Rattle.input.specs.declared.batch.Next.TheVariants.{Question, TooLong, CutOff, Ended}
use Rattle.input.specs.Unreads.{unread}
use Rattle.input.specs.Coming.{Coming, question, too_long_lem, cut_off_lem, ended}

-- It lies in a buffer of so much room.
abbrev pub Found : ℕ → Next → Type 0
Found room (Question from rest) = (from ≤ rest.at) × (rest.end ≤ room)
Found room (TooLong rest) = rest.end ≤ room
Found room CutOff = Unit {0}
Found room Ended = Unit {0}

-- The bytes that it names in a buffer.
abbrev pub found_in : List ℕ → Next → Coming
found_in buffer (Question from rest) = question (unread buffer from rest.at) (unread buffer rest.at rest.end)
found_in buffer (TooLong rest) = too_long_lem (unread buffer rest.at rest.end)
found_in buffer CutOff = cut_off_lem
found_in buffer Ended = ended

-- Before, the bytes from `at` up to `end` were not used yet. Some were read behind them, and what was found is what all these bytes have.
pub record FoundBy (Have : List ℕ → Coming → Type 0) (before : List ℕ) (at end : ℕ) (next : Next) (after : List ℕ) : Type 0 where
  pub lies : Found (length before) next
  pub more : List ℕ
  pub comes : Have (unread before at end ++ more) (found_in after next)
