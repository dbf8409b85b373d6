-- Bytes that are not used yet, and those that may still follow them.
use Rattle.std.specs.Prelude.{◌≡◌, List, [], ◌++◌, true, false, ℕ, ◌-◌, ◌≤◌, ◌<◌, length}
use Rattle.input.specs.Unreads.{unread}
use Rattle.marc_input.specs.declared.rest.Rest.{Rest}

-- They lie in the buffer.
abbrev pub Held : List ℕ → Rest → Type 0
Held buffer rest = (rest.at ≤ rest.end) × (rest.end ≤ length buffer)

abbrev pub rest_in : List ℕ → Rest → List ℕ
rest_in buffer rest = unread buffer rest.at rest.end

-- These bytes may follow: none does once the input is over.
abbrev pub MayFollow : Rest → List ℕ → Type 0
MayFollow rest beyond = rest.over ≡ true → beyond ≡ []

-- More bytes were read behind those that are not used yet, and some may still follow. Once the input is over it stays so.
pub record MoreBy (before : List ℕ) (rest : Rest) (more : List ℕ) (now : Rest) (after : List ℕ) : Type 0 where
  pub held : Held after now
  pub same : length after ≡ length before
  pub may_follow : MayFollow rest more
  pub stays_over : rest.over ≡ true → now.over ≡ true

-- So many bytes are wanted. The input is over only where fewer are there; then it is.
pub record FilledBy (before : List ℕ) (rest : Rest) (wanted : ℕ) (now : Rest) (after : List ℕ) : Type 0 where
  pub more : List ℕ
  pub read : MoreBy before rest more now after
  pub follows : rest_in after now ≡ rest_in before rest ++ more
  pub enough : now.over ≡ false → wanted ≤ now.end - now.at
  pub ended : rest.over ≡ false → now.over ≡ true → now.end - now.at < wanted
