-- The converter of saved answers: what it promises for everything that can be lent to it.
use Rattle.std.specs.Prelude.{◌≡◌, List, ℕ}
use Rattle.meaning.specs.Saved.{widened_count, later_words}
use Rattle.capi.specs.Answers.{coded, later_number}

pub record ShxWiden (words output : List ℕ) (written r : ℕ) (output' : List ℕ) (written' : ℕ) : Type 0 where
  pub answers : r ≡ coded (widened_count words output)
  pub output-later : output' ≡ later_words words output
  pub written-later : written' ≡ later_number (widened_count words output) written
