-- The exchange record's frame: a leader of 24 bytes, a directory with 12 bytes to an entry and hex 1E behind it, fields that each end with 1E,
-- and hex 1D at the end. The leader has the record's length at bytes 0 to 4 and the base address, where the fields begin, at 12 to 16. An entry
-- has a tag of 3 bytes, the field's length in 4 digits and its start, from the base address, in 5.
use Rattle.std.specs.Prelude.{List, [], ◌∷◌, Bool, true, ◌&&◌, ◌||◌, not, cond, ℕ, zero, suc, ◌+◌, ◌*◌, ◌-◌, ◌/◌, ◌%◌, eqb, ltb, leb, length, get_or, take, drop}
use Rattle.std.proofs.Math.Option.{Option, none, some as just}
use Rattle.theory.specs.Least.{or_else}
use Rattle.meaning.specs.Refusals.{Row, row, at0}

-- ---- numbers in digits

abbrev pub is_digit_lem : ℕ → Bool
is_digit_lem b = leb 48 b && leb b 57

-- the n bytes from `at` on are digits; the number that they write, behind what is written already
unfoldable pub digits_at : List ℕ → ℕ → ℕ → Bool
digits_at r at zero = true
digits_at r at (suc n) = is_digit_lem (get_or r at 0) && digits_at r (at + 1) n

unfoldable pub value_at : List ℕ → ℕ → ℕ → ℕ → ℕ
value_at r at zero so = so
value_at r at (suc n) so = value_at r (at + 1) n (so * 10 + (get_or r at 0 - 48))

abbrev pub decimal_at : List ℕ → ℕ → ℕ → ℕ
decimal_at r at n = value_at r at n 0

-- ---- leader and directory

abbrev pub record_length : List ℕ → ℕ
record_length r = decimal_at r 0 5

abbrev pub base_address : List ℕ → ℕ
base_address r = decimal_at r 12 5

-- How many entries the directory has. Entry e begins at byte 24 + 12 e; the directory's 1E stands before the base address.
abbrev pub entry_count : List ℕ → ℕ
entry_count r = (base_address r - 25) / 12

abbrev pub entry_at : ℕ → ℕ
entry_at e = 24 + 12 * e

abbrev pub field_length : List ℕ → ℕ → ℕ
field_length r e = decimal_at r (entry_at e + 3) 4

-- where a field begins, and the first byte behind it
abbrev pub field_at : List ℕ → ℕ → ℕ
field_at r e = base_address r + decimal_at r (entry_at e + 7) 5

abbrev pub field_end : List ℕ → ℕ → ℕ
field_end r e = field_at r e + field_length r e

-- ---- fields, in directory order

-- A field: its tag, and its bytes without the 1E that ends it.
pub data Field : Type 0 where
  field : List ℕ → List ℕ → Field

abbrev pub field_in : List ℕ → ℕ → Field
field_in r e = field (take 3 (drop (entry_at e) r)) (take (field_length r e - 1) (drop (field_at r e) r))

-- the fields of n entries from entry e on
abbrev pub fields_from : List ℕ → ℕ → ℕ → List Field
fields_from r e zero = []
fields_from r e (suc n) = field_in r e ∷ fields_from r (suc e) n

unfoldable pub fields_in : List ℕ → List Field
fields_in r = fields_from r 0 (entry_count r)

-- ---- the tests of the frame, in order, with their places

abbrev pub field_mark : ℕ
field_mark = 30

abbrev pub record_mark : ℕ
record_mark = 29

-- a place, where the test holds
abbrev pub at_if : ℕ → Bool → Option ℕ
at_if place b = cond b (just place) none

-- the first place that is given for a number below n
abbrev pub first_place : ℕ → (ℕ → Option ℕ) → Option ℕ
first_place zero f = none
first_place (suc n) f = or_else (first_place n f) (f n)

-- the record's length is no number, or not the bytes lent
abbrev pub bad_length : List ℕ → Bool
bad_length r = not (digits_at r 0 5) || not (eqb (record_length r) (length r))

-- the base address is no number, or not 25 and 12 for each entry, or not below the length
abbrev pub bad_base : List ℕ → Bool
bad_base r = not (digits_at r 12 5) || ltb (base_address r) 25 || not (eqb ((base_address r - 25) % 12) 0) || not (ltb (base_address r) (length r))

-- an entry's length is no number, or 0; its start is no number, or the field does not end before the last byte
abbrev pub bad_field_length : List ℕ → ℕ → Bool
bad_field_length r e = not (digits_at r (entry_at e + 3) 4) || eqb (field_length r e) 0

abbrev pub bad_field_start : List ℕ → ℕ → Bool
bad_field_start r e = not (digits_at r (entry_at e + 7) 5) || not (ltb (field_end r e) (length r))

abbrev pub entry_fault : List ℕ → ℕ → Option ℕ
entry_fault r e = or_else (at_if (entry_at e + 3) (bad_field_length r e)) (at_if (entry_at e + 7) (bad_field_start r e))

-- a byte is not the mark that it has to be
abbrev pub unmarked : List ℕ → ℕ → ℕ → Option ℕ
unmarked r at mark = at_if at (not (eqb (get_or r at 0) mark))

-- 17, at the first byte of the number or the mark that fails. (A record of less than 26 bytes has no whole frame: place 0.)
unfoldable pub frame_rows : List ℕ → List Row
frame_rows r =
    row 17 (at0 (ltb (length r) 26))
    ∷ row 17 (at0 (bad_length r))
    ∷ row 17 (at_if 12 (bad_base r))
    ∷ row 17 (first_place (entry_count r) (entry_fault r))
    ∷ row 17 (unmarked r (base_address r - 1) field_mark)
    ∷ row 17 (first_place (entry_count r) (λ e. unmarked r (field_end r e - 1) field_mark))
    ∷ row 17 (unmarked r (length r - 1) record_mark)
    ∷ []
