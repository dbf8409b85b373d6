-- Programs that answer turn after turn: in each something comes next, it has a text, and this is said behind what stands in the buffer.
use Rattle.std.specs.Prelude.{◌≡◌, List, Bool, true, false, ℕ, ◌≤◌, ◌<◌}
use Rattle.output.specs.Pendings.{Passed, HasRoom}

-- It has to wait for more bytes and has something to write before; or it has not.
abbrev pub MustWrite : (at end used : ℕ) → Bool → Type 0
MustWrite at end used true = (at ≡ end) × (0 < used)
MustWrite at end used false = at ≡ end → used ≡ 0

module _ {A : Type 0} (text_of : A → List ℕ) (Has : A → Type 0) where
  -- Something came next, of which `Has` holds, and its text is said. Where it had to wait, what stood in the buffer was handed over first; where it
  -- had not, and there is room, nothing was.
  pub record Answered (Waits : Type 0) (before : List ℕ) (used standing : ℕ) (after : List ℕ) : Type 0 where
    pub next : A
    pub has : Has next
    pub written : ℕ
    pub passed : Passed before used (text_of next) written standing after
    pub first : Waits → used ≤ written
    pub later : (Waits → used ≡ 0) → HasRoom before used (text_of next) → written ≡ 0

  -- or it is not said, for want of room
  pub record Unanswered (before : List ℕ) (used : ℕ) : Type 0 where
    pub next : A
    pub has : Has next
    pub full : HasRoom before used (text_of next) → ⊥

-- Bytes were read, some text of them is said, and so much of it stands in the buffer.
pub record Spoken (Has : (bytes text : List ℕ) → Type 0) (before : List ℕ) (standing : ℕ) (after : List ℕ) : Type 0 where
  pub bytes : List ℕ
  pub text : List ℕ
  pub has : Has bytes text
  pub written : ℕ
  pub passed : Passed before 0 text written standing after
