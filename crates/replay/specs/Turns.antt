-- What comes of a turn, and of turn after turn: what is said, and with which bytes it goes on.
use Rattle.std.specs.Prelude.{◌≡◌, List, ◌++◌, Option, None, Some, Result, Ok, Err, ℕ, ◌≤◌, length}
use Rattle.input.specs.Unreads.{unread}
use Rattle.input.specs.declared.unread.Unread.{Unread}
use Rattle.input.specs.declared.batch.Next.{Next}
use Rattle.input.specs.Coming.{Coming, Comes}
use Rattle.input.specs.Found.{found_in}
use Rattle.output.specs.declared.pending.Failed.{Failed}
use Rattle.output.specs.Turns.{Answered, Unanswered, Spoken}
use Rattle.replay.specs.declared.Turn.{Turn}
use Rattle.replay.specs.Batches.{turn_text, GoesOn, Stops, Begins, WholeBatch}

-- The bytes that are not used yet lie in a buffer of so much room.
abbrev pub Within : ℕ → Option Unread → Type 0
Within room (Some rest) = rest.end ≤ room
Within room None = Unit {0}

-- Behind what came next the batch goes on with these bytes of the buffer; or it is over.
abbrev pub Leaves : List ℕ → Option Unread → Coming → Type 0
Leaves buffer (Some rest) next = GoesOn next (unread buffer rest.at rest.end)
Leaves buffer None next = Stops next

-- One turn. A write fails for want of room alone, but for that of what stood in the buffer before it waits.
abbrev pub TurnBy : (Coming → Type 0) → Type 0 → ℕ → (buffer before : List ℕ) → ℕ → Result Turn Failed → List ℕ → Type 0
TurnBy Has Waits k buffer before used (Ok turn) after =
    Within (length buffer) turn.rest × Answered (turn_text k) (λ next. Has next × Leaves buffer turn.rest next) Waits before used turn.standing after
TurnBy Has Waits k buffer before used (Err failed) after = (Waits → used ≡ 0) → Unanswered (turn_text k) Has before used

-- The turn of what was found next; and the turn of bytes that are not used yet, with those that are read behind them.
abbrev pub TurnOf : ℕ → Next → (buffer before : List ℕ) → ℕ → Result Turn Failed → List ℕ → Type 0
TurnOf k next buffer before used turn after = TurnBy (λ coming. coming ≡ found_in buffer next) ⊥ k buffer before used turn after

abbrev pub TurnFrom : ℕ → (bytes : List ℕ) → Type 0 → (buffer before : List ℕ) → ℕ → Result Turn Failed → List ℕ → Type 0
TurnFrom k bytes Waits buffer before used turn after = TurnBy (λ coming. (more : List ℕ) × Comes (bytes ++ more) coming) Waits k buffer before used turn after

-- The first k questions of a batch of these bytes have this text, and the bytes behind them are not used yet; or the text is that of the whole batch.
abbrev pub SaidOf : ℕ → List ℕ → Option Unread → (bytes text : List ℕ) → Type 0
SaidOf k buffer (Some rest) bytes text = Begins k bytes (unread buffer rest.at rest.end) text
SaidOf k buffer None bytes text = WholeBatch bytes text

-- After k turns: the first k questions of what was read are answered, or all of it is. What was to be written when a write failed stands
-- nowhere any more.
abbrev pub TurnsBy : ℕ → (buffer before : List ℕ) → Result Turn Failed → List ℕ → Type 0
TurnsBy k buffer before (Ok turn) after = Within (length buffer) turn.rest × Spoken (SaidOf k buffer turn.rest) before turn.standing after
TurnsBy k buffer before (Err failed) after = Unit {0}
