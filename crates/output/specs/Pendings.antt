-- What stands in a buffer and is still to be written, and what saying a text comes to: it goes behind what stands there, and of the two together the
-- first bytes are handed over to be written.
use Rattle.std.specs.Prelude.{◌≡◌, List, ◌++◌, Bool, true, false, Result, Ok, Err, ℕ, ◌+◌, ◌≤◌, length, take, drop}
use Rattle.lines.specs.Lines.{line_room}
use Rattle.output.specs.declared.pending.Pending.{Pending}
use Rattle.output.specs.declared.pending.Failed.{Failed}

-- Of what stood in the buffer, `used` bytes, and the text behind it, the first `written` bytes were handed over, and all others, `end` of them,
-- stand at the buffer's front.
pub record Passed (before : List ℕ) (used : ℕ) (text : List ℕ) (written end : ℕ) (after : List ℕ) : Type 0 where
  pub counted : written + end ≡ used + length text
  pub inside : end ≤ length before
  pub same : length after ≡ length before
  pub stands : take end after ≡ drop written (take used before ++ text)

-- The text has room behind what stands in the buffer, with a line's room to spare.
abbrev pub HasRoom : List ℕ → ℕ → List ℕ → Type 0
HasRoom before used text = used + length text + line_room ≤ length before

-- The text is said. For one that has room nothing is handed over, so that it lies behind the bytes that stood there, and no write can fail.
abbrev pub Said : List ℕ → ℕ → List ℕ → Result Pending Failed → List ℕ → Type 0
Said before used text (Ok p) after = Passed before used text p.written p.standing after × (HasRoom before used text → p.written ≡ 0)
Said before used text (Err failed) after = HasRoom before used text → ⊥

-- All that stood in the buffer is handed over, and nothing stands there.
abbrev pub HandedOver : ℕ → Result Pending Failed → Type 0
HandedOver used (Ok p) = (p.written ≡ used) × (p.standing ≡ 0)
HandedOver used (Err failed) = Unit {0}

-- Before one waits it is handed over, and else it stays.
abbrev pub Settled : ℕ → Bool → Result Pending Failed → Type 0
Settled used true r = HandedOver used r
Settled used false (Ok p) = (p.written ≡ 0) × (p.standing ≡ used)
Settled used false (Err failed) = ⊥

-- Behind what stands there is so much room, of all that the buffer has.
abbrev pub Roomy : ℕ → ℕ → Result Pending Failed → Type 0
Roomy all room (Ok p) = p.standing + room ≤ all
Roomy all room (Err failed) = Unit {0}
