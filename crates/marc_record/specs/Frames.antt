-- What the code keeps of a record's frame while it tests it.
use Rattle.std.specs.Prelude.{◌≡◌, List, [], ◌∷◌, Option, Some, None, Result, Ok, Err, true, false, ℕ, ◌+◌, ◌*◌, ◌-◌, ◌≤◌, ◌<◌, length}
use Rattle.std.proofs.Math.Option.{Option as Place, none, some as just}
use Rattle.meaning.specs.Refusals.{Refusal, refusal, Row, row}
use Rattle.marc_record.specs.Found.{found}
use Rattle.marc.specs.Frame.{base_address, entry_count, entry_fault, field_end, field_mark, record_mark, unmarked, first_place, bad_base}

-- The base address and the count of entries, as read; the directory with its mark lies inside, and the base address too.
pub record Directory (r : List ℕ) (base entries : ℕ) : Type 0 where
  pub base_is : base ≡ base_address r
  pub entries_are : entries ≡ entry_count r
  pub size : base ≡ 25 + 12 * entries
  pub inside : base < length r
  pub small : base ≤ 99999

-- What is read of the base address.
abbrev pub BaseBy : List ℕ → Option ℕ → Type 0
BaseBy r None = bad_base r ≡ true
BaseBy r (Some base) = (bad_base r ≡ false) × (base ≡ base_address r) × (base ≤ 99999)

-- a field that does not end with its mark
abbrev pub unended : List ℕ → ℕ → Place ℕ
unended r e = unmarked r (field_end r e - 1) field_mark

-- What an entry tells: where its field ends, or its fault.
abbrev pub EntryTells : List ℕ → ℕ → Result ℕ ℕ → Type 0
EntryTells r e (Ok end) = (entry_fault r e ≡ none) × (end ≡ field_end r e) × (0 < end) × (end < length r)
EntryTells r e (Err place) = entry_fault r e ≡ just place

-- What all tell: the first field without its mark, or the first fault.
abbrev pub EntriesTell : List ℕ → Result (Option ℕ) ℕ → Type 0
EntriesTell r (Ok unmarked) = (first_place (entry_count r) (entry_fault r) ≡ none) × (found unmarked ≡ first_place (entry_count r) (unended r))
EntriesTell r (Err place) = first_place (entry_count r) (entry_fault r) ≡ just place

-- the rows of the frame behind its leader
unfoldable pub field_rows : List ℕ → List Row
field_rows r =
    row 17 (first_place (entry_count r) (entry_fault r))
    ∷ row 17 (unmarked r (base_address r - 1) field_mark)
    ∷ row 17 (first_place (entry_count r) (unended r))
    ∷ row 17 (unmarked r (length r - 1) record_mark)
    ∷ []

-- A fault is refused by 17, at its place.
abbrev pub fault_in : Result (Unit {0}) ℕ → Place Refusal
fault_in (Ok done) = none
fault_in (Err place) = just (refusal 17 place)
