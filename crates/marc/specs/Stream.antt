-- An input with many records, one behind the other. Line ends in front of a record belong to none. A record is as long as its first five bytes say,
-- where that can be and hex 1D stands at its end; otherwise it ends with the next 1D, or with the input.
use Rattle.std.specs.Prelude.{List, [], ◌∷◌, Bool, ◌&&◌, ◌||◌, cond, ℕ, zero, suc, ◌-◌, eqb, leb, length, get_or, take, drop}
use Rattle.marc.specs.Frame.{digits_at, record_length, record_mark}

-- hex 0A and 0D
abbrev pub is_break_lem : ℕ → Bool
is_break_lem b = eqb b 10 || eqb b 13

unfoldable pub behind_breaks : List ℕ → List ℕ
behind_breaks [] = []
behind_breaks (b ∷ bs) = cond (is_break_lem b) (behind_breaks bs) (b ∷ bs)

-- how many bytes there are up to and with the next 1D, or up to the end
unfoldable pub to_mark : List ℕ → ℕ
to_mark [] = 0
to_mark (b ∷ bs) = cond (eqb b record_mark) 1 (suc (to_mark bs))

-- The bytes begin with a record that is as long as it says.
unfoldable pub as_said : List ℕ → Bool
as_said bytes = digits_at bytes 0 5 && leb 26 (record_length bytes) && leb (record_length bytes) (length bytes) && eqb (get_or bytes (record_length bytes - 1) 0) record_mark

-- how long the first record is
unfoldable pub size_of : List ℕ → ℕ
size_of bytes = cond (as_said bytes) (record_length bytes) (to_mark bytes)

-- What comes next: a record, with the bytes behind it; or there is none.
pub data Coming : Type 0 where
  comes : List ℕ → List ℕ → Coming
  no_more : Coming

abbrev pub coming_in : List ℕ → Coming
coming_in [] = no_more
coming_in (b ∷ bs) = comes (take (size_of (b ∷ bs)) (b ∷ bs)) (drop (size_of (b ∷ bs)) (b ∷ bs))

unfoldable pub next_in : List ℕ → Coming
next_in input = coming_in (behind_breaks input)

-- The records of an input, in their order. (Each has at least a byte, so that there are not more of them than bytes.)
abbrev pub with_next : {A : Type 0} → Coming → A → (List ℕ → List ℕ → A) → A
with_next (comes bytes left) none some = some bytes left
with_next no_more none some = none

unfoldable pub records_from : ℕ → List ℕ → List (List ℕ)
records_from zero input = []
records_from (suc n) input = with_next (next_in input) [] (λ bytes left. bytes ∷ records_from n left)

unfoldable pub records_in : List ℕ → List (List ℕ)
records_in input = records_from (length input) input
