-- The match: what it promises for everything that can be lent to it.
use Rattle.std.specs.Prelude.{◌≡◌, List, [], ◌∷◌, true, ℕ, Result}
use Rattle.meaning.specs.File.{table_in}
use Rattle.meaning.specs.Refusals.{Row, row5, row6, row7, row8}
use Rattle.meaning.specs.Calls.{matched, later_spans, later_sets}
use Rattle.refusal.specs.Outcomes.{said_match}
use Rattle.refusal.specs.declared.Degrees.{Degrees}
use Rattle.refusal.specs.declared.Refusal.{Refusal}

-- ---- 6. The match: its answer, and what the two buffers hold later.

pub record MatchHeading (table pattern heading : List ℕ) (cut : ℕ) (spans sets : List ℕ) (r : Result Degrees Refusal) (spans' sets' : List ℕ) : Type 0 where
  pub answers : said_match r ≡ matched table pattern heading cut spans sets
  pub spans_later : spans' ≡ later_spans table pattern heading cut spans sets
  pub sets_later : sets' ≡ later_sets table pattern heading cut spans sets

-- ---- What is tested before a search, once the table is sound: 5 to 8.

unfoldable pub asked_rows : List ℕ → List ℕ → List ℕ → ℕ → List ℕ → List ℕ → List Row
asked_rows table pattern heading cut spans sets =
    row5 cut ∷ row6 (table_in table) true pattern ∷ row7 (table_in table) heading ∷ row8 heading spans sets ∷ []
