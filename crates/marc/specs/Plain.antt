-- A record as one would write it: the fields one after the other, and before them a directory that says where each is.
use Rattle.std.specs.Prelude.{◌≡◌, List, [], ◌∷◌, ◌++◌, ℕ, ◌+◌, ◌*◌, ◌/◌, ◌%◌, ◌≤◌, length}
use Rattle.theory.specs.Least.{All}
use Rattle.marc.specs.Frame.{Field, field, field_mark, record_mark}
use Rattle.marc.specs.Subfields.{subfield_mark}

-- ---- digits

abbrev pub digit : ℕ → ℕ
digit n = 48 + n % 10

abbrev pub four_digits : ℕ → List ℕ
four_digits n = digit (n / 1000) ∷ digit (n / 100) ∷ digit (n / 10) ∷ digit n ∷ []

abbrev pub five_digits : ℕ → List ℕ
five_digits n = digit (n / 10000) ∷ four_digits n

-- ---- fields

abbrev pub field_bytes : Field → List ℕ
field_bytes (field tag content) = content ++ (field_mark ∷ [])

abbrev pub tag_of : Field → List ℕ
tag_of (field tag content) = tag

abbrev pub fields_bytes : List Field → List ℕ
fields_bytes [] = []
fields_bytes (f ∷ fs) = field_bytes f ++ fields_bytes fs

-- the directory, where the first field begins at `start`
abbrev pub directory : ℕ → List Field → List ℕ
directory start [] = []
directory start (f ∷ fs) = tag_of f ++ (four_digits (length (field_bytes f)) ++ (five_digits start ++ directory (start + length (field_bytes f)) fs))

abbrev pub base_of : List Field → ℕ
base_of fs = 25 + 12 * length fs

abbrev pub length_of : List Field → ℕ
length_of fs = base_of fs + length (fields_bytes fs) + 1

-- The record: what the leader has beside the two numbers, seven bytes and seven, is of no account.
unfoldable pub record_of : List ℕ → List ℕ → List Field → List ℕ
record_of one two fs =
    five_digits (length_of fs) ++ (one ++ (five_digits (base_of fs) ++ (two ++ (directory 0 fs ++ (field_mark ∷ (fields_bytes fs ++ (record_mark ∷ [])))))))

-- A field that a directory can tell of; fields that a record can hold.
pub record Fits (f : Field) : Type 0 where
  pub tag_is : length (tag_of f) ≡ 3
  pub short : length (field_bytes f) ≤ 9999

pub record Holds (one two : List ℕ) (fs : List Field) : Type 0 where
  pub seven : length one ≡ 7
  pub seven_more : length two ≡ 7
  pub each : All Fits fs
  pub short : length_of fs ≤ 99999

-- ---- subfields

-- A subfield: its code and its text; neither has a 1F.
pub data Subfield : Type 0 where
  coded : ℕ → List ℕ → Subfield

abbrev pub Unmarked : List ℕ → Type 0
Unmarked = All (λ b. b ≡ subfield_mark → ⊥)

abbrev pub FineSubfield : Subfield → Type 0
FineSubfield (coded code text) = (code ≡ subfield_mark → ⊥) × Unmarked text

abbrev pub subfields_bytes : List Subfield → List ℕ
subfields_bytes [] = []
subfields_bytes (coded code text ∷ ss) = subfield_mark ∷ code ∷ (text ++ subfields_bytes ss)
