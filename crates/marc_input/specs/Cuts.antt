-- What comes next in the input, whatever may still follow.
use Rattle.std.specs.Prelude.{◌≡◌, List, ◌++◌, Option, Some, None, Bool, true, false, ◌&&◌, ℕ, ◌+◌, ◌-◌, ◌≤◌, ◌<◌, eqb, leb, length, get_or}
use Rattle.input.specs.Unreads.{unread}
use Rattle.marc.specs.Frame.{record_mark, digits_at, record_length}
use Rattle.marc.specs.Stream.{as_said, Coming, comes, no_more, next_in}
use Rattle.marc_input.specs.declared.rest.Rest.{Rest}
use Rattle.marc_input.specs.declared.cutting.Cut.{Cut}
use Rattle.marc_input.specs.declared.cutting.Cut.TheVariants.{Whole, TooLong, Ended, Endless}
use Rattle.marc_input.specs.Rests.{rest_in, MayFollow, MoreBy}
use Rattle.marc_input.specs.Passing.{NoMark, uncounted}

-- No record has more bytes.
abbrev pub most_bytes : ℕ
most_bytes = 99999

-- Some bytes were read behind those that were not used yet; a record comes next in them, of which `Is` holds, and the bytes that are not used now
-- stand behind it.
pub record ComesTo (next_in_lem : List ℕ → Coming) (Is : List ℕ → Type 0) (before : List ℕ) (rest now : Rest) (after : List ℕ) : Type 0 where
  pub more : List ℕ
  pub read : MoreBy before rest more now after
  pub next : (beyond : List ℕ) → MayFollow now beyond → (bytes : List ℕ) × Is bytes × (next_in_lem ((rest_in before rest ++ more) ++ beyond) ≡ comes bytes (rest_in after now ++ beyond))

-- Nothing comes next; or there were more bytes than can be counted.
abbrev pub ComesBy : (List ℕ → Coming) → List ℕ → Rest → Cut → List ℕ → Type 0
ComesBy next_in_lem before rest (Whole start now) after = (start ≤ now.at) × ComesTo next_in_lem (λ bytes. bytes ≡ unread after start now.at) before rest now after
ComesBy next_in_lem before rest (TooLong now) after = ComesTo next_in_lem (λ bytes. most_bytes < length bytes) before rest now after
ComesBy next_in_lem before rest Ended after = (more : List ℕ) × MayFollow rest more × (next_in_lem (rest_in before rest ++ more) ≡ no_more)
ComesBy next_in_lem before rest Endless after = (more : List ℕ) × MayFollow rest more × (uncounted ≤ length (rest_in before rest ++ more))

abbrev pub NextTo : (List ℕ → Type 0) → List ℕ → Rest → Rest → List ℕ → Type 0
NextTo = ComesTo next_in

abbrev pub NextBy : List ℕ → Rest → Cut → List ℕ → Type 0
NextBy = ComesBy next_in

-- ---- the parts of a cut

-- The bytes say that the record has so many, whatever follows.
abbrev pub Says : ℕ → List ℕ → Type 0
Says count bytes = (beyond : List ℕ) → (digits_at (bytes ++ beyond) 0 5 ≡ true) × (record_length (bytes ++ beyond) ≡ count)

-- The record is not as long as it says, whatever may follow.
abbrev pub NotAsSaid : List ℕ → Rest → Type 0
NotAsSaid buffer rest = (beyond : List ℕ) → MayFollow rest beyond → as_said (rest_in buffer rest ++ beyond) ≡ false

-- So many bytes are said; or nothing is said that can be.
abbrev pub SaidBy : List ℕ → Rest → Option ℕ → Type 0
SaidBy buffer rest (Some count) = (count ≤ most_bytes) × (26 ≤ count) × Says count (rest_in buffer rest)
SaidBy buffer rest None = NotAsSaid buffer rest

-- So many bytes are there, with a mark at their end.
abbrev pub ends_marked_lem : List ℕ → Rest → ℕ → Bool
ends_marked_lem buffer rest count = leb count (rest.end - rest.at) && eqb (get_or buffer (rest.at + count - 1) 0) record_mark

-- Bytes were read until a mark is there, or more of them than a record may have, or the input is over.
pub record ToMarkBy (before : List ℕ) (rest now : Rest) (after : List ℕ) : Type 0 where
  pub more : List ℕ
  pub read : MoreBy before rest more now after
  pub follows : rest_in after now ≡ rest_in before rest ++ more
  pub many : now.over ≡ false → NoMark (rest_in after now) → most_bytes < now.end - now.at
