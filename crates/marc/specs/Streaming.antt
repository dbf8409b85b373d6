-- What is said of the records of an input. Statements; the proofs are in proofs/Streaming.antt.
use Rattle.std.specs.Prelude.{◌≡◌, List, [], ◌∷◌, ◌++◌, map, true, ℕ, ◌≤◌, length, replicate}
use Rattle.theory.specs.Least.{All}
use Rattle.marc.specs.Frame.{Field}
use Rattle.marc.specs.Plain.{five_digits, Holds, record_of}
use Rattle.marc.specs.Stream.{is_break_lem, comes, next_in, records_in}

-- Some line ends, and a record behind them.
pub record Piece : Type 0 where
  pub breaks : List ℕ
  pub bytes : List ℕ

abbrev pub LineEnds : List ℕ → Type 0
LineEnds = All (λ b. is_break_lem b ≡ true)

-- pieces one behind the other, and then some more bytes
abbrev pub joined : List Piece → List ℕ → List ℕ
joined [] last = last
joined (piece ∷ pieces) last = piece.breaks ++ (piece.bytes ++ joined pieces last)

abbrev pub bytes_of : Piece → List ℕ
bytes_of piece = piece.bytes

-- Nothing is lost, and nothing comes in: any input is its records, in their order, with line ends before them and behind the last. None is empty.
pub record MadeUp (input : List ℕ) : Type 0 where
  pub pieces : List Piece
  pub last : List ℕ
  pub before : All (λ piece. LineEnds piece.breaks) pieces
  pub not_empty : All (λ piece. 1 ≤ length piece.bytes) pieces
  pub behind : LineEnds last
  pub is_all : input ≡ joined pieces last
  pub records : records_in input ≡ map bytes_of pieces

abbrev pub NothingLost : Type 0
NothingLost = (input : List ℕ) → MadeUp input

-- A record as one writes it comes next, whatever stands behind it.
abbrev pub ComesWhole : Type 0
ComesWhole = (one two : List ℕ) (fs : List Field) (left : List ℕ) → Holds one two fs → next_in (record_of one two fs ++ left) ≡ comes (record_of one two fs) left

-- line ends, and a record as one writes it
pub record Written (piece : Piece) : Type 0 where
  pub breaks_are : LineEnds piece.breaks
  pub one : List ℕ
  pub two : List ℕ
  pub fields : List Field
  pub holds : Holds one two fields
  pub bytes_are : piece.bytes ≡ record_of one two fields

-- Records that were written one behind the other, with or without line ends, are read back each, whatever their fields hold.
abbrev pub ReadsBack : Type 0
ReadsBack = (pieces : List Piece) (last : List ℕ) → All Written pieces → LineEnds last → records_in (joined pieces last) ≡ map bytes_of pieces

-- ---- inputs, and their records

pub data Case : Type 0 where
  has : List ℕ → List (List ℕ) → Case

abbrev pub Right : Case → Type 0
Right (has input records) = records_in input ≡ records

-- five digits, a 1D behind them, and blanks up to 25 bytes
abbrev pub saying : ℕ → List ℕ
saying n = five_digits n ++ (29 ∷ replicate 19 32)

abbrev pub cases : List Case
cases =
    has (10 ∷ 13 ∷ 10 ∷ []) []
    -- a line end belongs to no record in front of one, and to the record inside; the last one may have no mark
    ∷ has (13 ∷ 10 ∷ 65 ∷ 10 ∷ 29 ∷ 10 ∷ 29 ∷ 66 ∷ []) ((65 ∷ 10 ∷ 29 ∷ []) ∷ (29 ∷ []) ∷ (66 ∷ []) ∷ [])
    -- as long as it says, over a 1D
    ∷ has (saying 26 ++ (29 ∷ 65 ∷ [])) ((saying 26 ++ (29 ∷ [])) ∷ (65 ∷ []) ∷ [])
    -- no 1D is where it says; fewer bytes are there; too few are said; no digits
    ∷ has (saying 26 ++ (65 ∷ 29 ∷ [])) ((five_digits 26 ++ (29 ∷ [])) ∷ (replicate 19 32 ++ (65 ∷ 29 ∷ [])) ∷ [])
    ∷ has (saying 27 ++ (29 ∷ [])) ((five_digits 27 ++ (29 ∷ [])) ∷ (replicate 19 32 ++ (29 ∷ [])) ∷ [])
    ∷ has (saying 25) ((five_digits 25 ++ (29 ∷ [])) ∷ replicate 19 32 ∷ [])
    ∷ has (47 ∷ saying 26) ((47 ∷ (five_digits 26 ++ (29 ∷ []))) ∷ replicate 19 32 ∷ [])
    ∷ []

abbrev pub CasesRight : Type 0
CasesRight = All Right cases
