-- What comes next in a batch, told by its bytes alone.
use Rattle.std.specs.Prelude.{◌≡◌, List, [], ◌++◌, ℕ, ◌+◌, ◌*◌, ◌≤◌, ◌<◌, length}
use Rattle.meaning.specs.File.{number}

pub data Coming : Type 0 where
  -- a question, and the bytes behind it
  question : List ℕ → List ℕ → Coming
  -- a question that is too long to be answered: the bytes behind it
  too_long_lem : List ℕ → Coming
  -- the batch ends inside a length or a question
  cut_off_lem : Coming
  ended : Coming

-- The length that four bytes say, low byte first.
abbrev pub length_in : List ℕ → ℕ
length_in four = number four 0 + 65536 * number four 2

-- What follows a length.
pub data Follows (count : ℕ) (bytes : List ℕ) : Coming → Type 0 where
  whole : {asked left : List ℕ} → bytes ≡ asked ++ left → length asked ≡ count → count ≤ 65535 → Follows count bytes (question asked left)
  over_long : (passed : List ℕ) {left : List ℕ} → bytes ≡ passed ++ left → length passed ≡ count → 65535 < count → Follows count bytes (too_long_lem left)
  short : length bytes < count → Follows count bytes cut_off_lem

-- What a batch begins with.
pub data Comes (bytes : List ℕ) : Coming → Type 0 where
  nothing : bytes ≡ [] → Comes bytes ended
  no_length_lem : 0 < length bytes → length bytes < 4 → Comes bytes cut_off_lem
  behind : (four rest : List ℕ) {next : Coming} → bytes ≡ four ++ rest → length four ≡ 4 → Follows (length_in four) rest next → Comes bytes next
