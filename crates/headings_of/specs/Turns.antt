-- What comes of a turn, and of turn after turn: what is said, and with which bytes it goes on.
use Rattle.std.specs.Prelude.{◌≡◌, List, [], ◌++◌, Option, Some, None, Result, Ok, Err, ℕ, ◌≤◌, length}
use Rattle.marc.specs.Known.{Known}
use Rattle.marc.specs.Stream.{no_more, next_in, records_in}
use Rattle.marc.specs.Printed.{text_from, headings_text}
use Rattle.input.specs.Unreads.{unread}
use Rattle.marc_input.specs.declared.rest.Rest.{Rest}
use Rattle.marc_input.specs.declared.cutting.Cut.{Cut}
use Rattle.marc_input.specs.declared.cutting.Cut.TheVariants.{Whole, TooLong, Ended, Endless}
use Rattle.marc_input.specs.Rests.{Held, rest_in, MayFollow}
use Rattle.marc_input.specs.Passing.{NoMark, uncounted}
use Rattle.marc_input.specs.Cuts.{NextTo}
use Rattle.output.specs.declared.pending.Failed.{Failed}
use Rattle.output.specs.Pendings.{Said}
use Rattle.output.specs.Turns.{Answered, Unanswered, Spoken}
use Rattle.headings_of.specs.declared.answering.Turn.{Turn}
use Rattle.headings_of.specs.Texts.{record_text}

-- ---- what was cut off

-- A record that was found lies in a buffer of so many bytes.
abbrev pub CutIn : ℕ → Cut → Type 0
CutIn room (Whole start rest) = (start ≤ rest.at) × (rest.at ≤ room)
CutIn room (TooLong rest) = Unit {0}
CutIn room Ended = Unit {0}
CutIn room Endless = Unit {0}

-- A text is said, and it goes on with these bytes.
abbrev pub GoesOn : (text : List ℕ) → Rest → (before : List ℕ) → ℕ → Result Turn Failed → List ℕ → Type 0
GoesOn text rest before used (Ok turn) after = (turn.rest ≡ Some rest) × (written : ℕ) × Said before used text (Ok (record { written = written; standing = turn.standing })) after
GoesOn text rest before used (Err failed) after = Said before used text (Err failed) after

-- Nothing is said, and nothing comes any more.
abbrev pub StopsAt : (before : List ℕ) → ℕ → Result Turn Failed → List ℕ → Type 0
StopsAt before used r after = (r ≡ Ok (record { rest = None; standing = used })) × (after ≡ before)

-- Where no mark stands in the bytes that are not used yet no whole record does, and it has to wait for more.
abbrev pub Waits : List ℕ → Rest → Type 0
Waits buffer rest = NoMark (rest_in buffer rest)

-- The input is over, or cannot be counted.
pub data Over (input : List ℕ) : Type 0 where
  ended : next_in input ≡ no_more → Over input
  endless : uncounted ≤ length input → Over input

module _ (heading absent : ℕ) (ks : List Known) where
  -- What is said of what was cut off, where it is record k. One that is too long is not there any more: it has the text of no bytes.
  abbrev pub CutSaid : ℕ → (buffer : List ℕ) → Cut → (before : List ℕ) → ℕ → Result Turn Failed → List ℕ → Type 0
  CutSaid k buffer (Whole start rest) = GoesOn (record_text heading absent ks k (unread buffer start rest.at)) rest
  CutSaid k buffer (TooLong rest) = GoesOn (record_text heading absent ks k []) rest
  CutSaid k buffer Ended = StopsAt
  CutSaid k buffer Endless = StopsAt

  -- ---- a turn

  -- This is the text of the record that comes next, as record k, whatever may still follow; or nothing comes, and nothing is said.
  abbrev pub TextOf : ℕ → (buffer : List ℕ) → Rest → Rest → (buffer' text : List ℕ) → Type 0
  TextOf k buffer rest now buffer' text = NextTo (λ bytes. text ≡ record_text heading absent ks k bytes) buffer rest now buffer'

  abbrev pub NoText : (buffer : List ℕ) → Rest → List ℕ → Type 0
  NoText buffer rest text = (text ≡ []) × ((more : List ℕ) × MayFollow rest more × Over (rest_in buffer rest ++ more))

  -- It goes on with the bytes behind the record, or the input is over.
  abbrev pub TurnTo : ℕ → (buffer : List ℕ) → Rest → (before : List ℕ) → ℕ → Option Rest → (standing : ℕ) → (buffer' after : List ℕ) → Type 0
  TurnTo k buffer rest before used (Some now) standing buffer' after = Answered (λ text. text) (TextOf k buffer rest now buffer') (Waits buffer rest) before used standing after
  TurnTo k buffer rest before used None standing buffer' after = Answered (λ text. text) (NoText buffer rest) (Waits buffer rest) before used standing after

  -- One turn. A write fails for want of room alone, but for that of what stood in the buffer before it waits.
  abbrev pub TurnBy : ℕ → (buffer : List ℕ) → Rest → (before : List ℕ) → ℕ → Result Turn Failed → (buffer' after : List ℕ) → Type 0
  TurnBy k buffer rest before used (Ok turn) buffer' after = TurnTo k buffer rest before used turn.rest turn.standing buffer' after
  TurnBy k buffer rest before used (Err failed) buffer' after =
      (Waits buffer rest → used ≡ 0) → Unanswered (λ text. text) (λ text. (now : Rest) × TextOf k buffer rest now buffer' text) before used

  -- ---- turn after turn

  -- What is still to be said, whatever follows, is the text of the records in the bytes that are not used yet; and these are among those that were read.
  pub record SaidSo (k : ℕ) (buffer : List ℕ) (rest : Rest) (bytes text : List ℕ) : Type 0 where
    pub says : (beyond : List ℕ) → MayFollow rest beyond → headings_text heading absent ks (bytes ++ beyond) ≡ text ++ text_from heading absent ks k (records_in (rest_in buffer rest ++ beyond))
    pub among : length (rest_in buffer rest) ≤ length bytes

  -- All is said; or there were more bytes than can be counted.
  pub data Finished (bytes text : List ℕ) : Type 0 where
    whole : text ≡ headings_text heading absent ks bytes → Finished bytes text
    uncountable : uncounted ≤ length bytes → Finished bytes text

  -- After k records; or all of them, where the input is over.
  abbrev pub SpokenTo : ℕ → (buffer before : List ℕ) → Option Rest → (standing : ℕ) → List ℕ → Type 0
  SpokenTo k buffer before (Some rest) standing after = Held buffer rest × Spoken (SaidSo k buffer rest) before standing after
  SpokenTo k buffer before None standing after = Spoken Finished before standing after

  -- What was to be written when a write failed stands nowhere any more.
  abbrev pub TurnsBy : ℕ → (buffer before : List ℕ) → Result Turn Failed → List ℕ → Type 0
  TurnsBy k buffer before (Ok turn) after = SpokenTo k buffer before turn.rest turn.standing after
  TurnsBy k buffer before (Err failed) after = Unit {0}
