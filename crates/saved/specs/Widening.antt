-- The converter of saved answers: what it promises for everything that can be lent to it, its answer and what the output holds later.
use Rattle.std.specs.Prelude.{◌≡◌, List, ℕ, Result}
use Rattle.meaning.specs.Saved.{widened_count, later_words}
use Rattle.refusal.specs.declared.Refusal.{Refusal}
use Rattle.writer.specs.Said.{said}

pub record Widen (words output : List ℕ) (r : Result ℕ Refusal) (later : List ℕ) : Type 0 where
  pub answers : said r ≡ widened_count words output
  pub leaves : later ≡ later_words words output
