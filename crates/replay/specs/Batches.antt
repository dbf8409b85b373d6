-- What is said of a batch: of each question by its number, one after the other.
use Rattle.std.specs.Prelude.{◌≡◌, List, [], ◌++◌, ℕ, ◌+◌}
use Rattle.meaning.specs.Program.{output, refused_text}
use Rattle.input.specs.Coming.{Coming, question, too_long_lem, cut_off_lem, ended, Comes}
use Rattle.output.specs.Titles.{title_text, cut_off_text}

-- What is said where this comes next, of question k.
unfoldable pub turn_text : ℕ → Coming → List ℕ
turn_text k (question asked left) = title_text k ++ output asked
turn_text k (too_long_lem left) = title_text k ++ refused_text 12 0
turn_text k cut_off_lem = title_text k ++ cut_off_text
turn_text k ended = []

-- The batch goes on with these bytes; or it is over.
abbrev pub GoesOn : Coming → List ℕ → Type 0
GoesOn (question asked left) bytes = bytes ≡ left
GoesOn (too_long_lem left) bytes = bytes ≡ left
GoesOn cut_off_lem bytes = ⊥
GoesOn ended bytes = ⊥

abbrev pub Stops : Coming → Type 0
Stops (question asked left) = ⊥
Stops (too_long_lem left) = ⊥
Stops cut_off_lem = Unit {0}
Stops ended = Unit {0}

-- A batch of these bytes begins with k questions, `left` are the bytes behind them, and this is the text.
pub data Begins : ℕ → (bytes left text : List ℕ) → Type 0 where
  none : {bytes : List ℕ} → Begins 0 bytes bytes []
  further : {k : ℕ} {bytes rest left text : List ℕ} {next : Coming} → Begins k bytes rest text → Comes rest next → GoesOn next left
      → Begins (k + 1) bytes left (text ++ turn_text k next)

-- The text of a whole batch.
pub record WholeBatch (bytes text : List ℕ) : Type 0 where
  pub many : ℕ
  pub left : List ℕ
  pub front : List ℕ
  pub begun : Begins many bytes left front
  pub next : Coming
  pub comes : Comes left next
  pub stops : Stops next
  pub all : text ≡ front ++ turn_text many next
