-- What is read where a number has to begin.
use Rattle.std.specs.Prelude.{◌≡◌, List, ◌∷◌, ◌++◌, false, ℕ, ◌<◌, length, get_or}
use Rattle.meaning.specs.Program.{decimal}
use Rattle.marc.specs.Frame.{is_digit_lem}
use Rattle.marc.specs.ListFile.{Numbered}

-- The number stands there in decimal, and what stands behind it begins with a byte that is no digit.
pub record Valued (bytes : List ℕ) (n : ℕ) (rest : List ℕ) : Type 0 where
  pub fits : Numbered n
  pub some : 0 < length rest
  pub ended : is_digit_lem (get_or rest 0 0) ≡ false
  pub written : bytes ≡ decimal n ++ rest

-- No number stands there that has a byte behind it that is no digit.
abbrev pub NoNumber : List ℕ → Type 0
NoNumber bytes = (n byte : ℕ) (left : List ℕ) → Numbered n → is_digit_lem byte ≡ false → bytes ≡ decimal n ++ (byte ∷ left) → ⊥
