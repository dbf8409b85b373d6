-- What passing over comes to, whatever may still follow in the input.
use Rattle.std.specs.Prelude.{◌≡◌, List, ◌++◌, Option, Some, None, ℕ, ◌+◌, ◌-◌, ◌≤◌, ◌<◌, length, drop}
use Rattle.marc.specs.Stream.{to_mark}
use Rattle.marc_input.specs.declared.rest.Rest.{Rest}
use Rattle.marc_input.specs.Rests.{rest_in, MayFollow, MoreBy}

-- No mark stands in these bytes: the next is in what follows.
abbrev pub NoMark : List ℕ → Type 0
NoMark bytes = (beyond : List ℕ) → to_mark (bytes ++ beyond) ≡ length bytes + to_mark beyond

-- A mark stands at `place`, the first of these bytes that begin at `from`; or there is none and `place` is their end.
pub record MarkBy (bytes : List ℕ) (from to place : ℕ) : Type 0 where
  pub rising : from ≤ place
  pub inside : place ≤ to
  pub marked : place < to → (beyond : List ℕ) → to_mark (bytes ++ beyond) ≡ place - from + 1
  pub unmarked : place ≡ to → NoMark bytes

-- the bytes behind the next mark
abbrev pub behind_mark : List ℕ → List ℕ
behind_mark bytes = drop (to_mark bytes) bytes

-- as many bytes as a number of 64 bits counts
abbrev pub uncounted : ℕ
uncounted = 18446744073709551615

-- What is passed over is what `behind` leaves out of the input, whatever may still follow.
pub record PassedTo (behind : List ℕ → List ℕ) (before : List ℕ) (rest now : Rest) (after : List ℕ) : Type 0 where
  pub more : List ℕ
  pub read : MoreBy before rest more now after
  pub leaves : (beyond : List ℕ) → MayFollow now beyond → behind ((rest_in before rest ++ more) ++ beyond) ≡ rest_in after now ++ beyond

abbrev pub PassedBy : (List ℕ → List ℕ) → List ℕ → Rest → Option Rest → List ℕ → Type 0
PassedBy behind before rest (Some now) after = PassedTo behind before rest now after
PassedBy behind before rest None after = (more : List ℕ) × MayFollow rest more × (uncounted ≤ length (rest_in before rest ++ more))
