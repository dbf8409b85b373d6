-- Text that is put into a buffer step by step.
use Rattle.std.specs.Prelude.{◌≡◌, List, [], ℕ, ◌+◌, length}
use Rattle.meaning.specs.Over.{over}
use Rattle.meaning.specs.Program.{digits, decimal}
use Rattle.text.specs.declared.Text.{Text}

-- The text stands behind what stood there, in the same buffer.
pub record PutBy (before : Text) (text : List ℕ) (after : Text) : Type 0 where
  pub same_buffer : after.buffer.ghost_name ≡ before.buffer.ghost_name
  pub room : length after.buffer.now ≡ length before.buffer.now
  pub ends : after.used ≡ before.used + length text
  pub written : after.buffer.now ≡ over before.buffer.now before.used text

-- A number of 16 bits in decimal, and one of 64, under names that stay shut.
unfoldable pub numeral : ℕ → List ℕ
numeral n = decimal n

unfoldable pub long_numeral : ℕ → List ℕ
long_numeral n = digits 20 n []
