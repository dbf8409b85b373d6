-- Numbers laid over those of a buffer, as code writes them. The contracts of inner functions say this; no promise rests on it.
use Rattle.std.specs.Prelude.{List, ◌++◌, ℕ, ◌+◌, length, take, drop}

-- The buffer with these numbers in place of those from `at` on.
unfoldable pub over : List ℕ → ℕ → List ℕ → List ℕ
over buffer at numbers = take at buffer ++ numbers ++ drop (at + length numbers) buffer
