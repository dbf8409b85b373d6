-- What filling a buffer with lines comes to.
use Rattle.std.specs.Prelude.{◌≡◌, List, ◌++◌, Option, None, Result, ℕ, ◌+◌, ◌≤◌, length}
use Rattle.refusal.specs.declared.Degrees.{Degrees}
use Rattle.refusal.specs.declared.Refusal.{Refusal}
use Rattle.lines.specs.declared.line.Cursor.{Cursor}
use Rattle.text.specs.declared.Text.{Text}
use Rattle.text.specs.Texts.{PutBy}
use Rattle.lines.specs.Lines.{line_room, rest_at, OnLine}

-- Of what is still to be written at the cursor, a part stands behind what stood there, and the rest is to be written at the new cursor.
-- Something is left only for want of room.
pub record FilledBy (outcome : Result Degrees Refusal) (spans sets : List ℕ) (cursor : Option Cursor) (before : Text) (next : Option Cursor) (after : Text) : Type 0 where
  pub text : List ℕ
  pub put : PutBy before text after
  pub splits : rest_at outcome spans sets cursor ≡ text ++ rest_at outcome spans sets next
  pub on : OnLine spans next
  pub full : after.used + line_room ≤ length before.buffer.now → next ≡ None
