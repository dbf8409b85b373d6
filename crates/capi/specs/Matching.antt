-- The match: what it promises for everything that can be lent to it.
use Rattle.std.specs.Prelude.{◌≡◌, List, ℕ}
use Rattle.meaning.specs.Calls.{matched, lowest_in, highest_in, later_spans, later_sets}
use Rattle.capi.specs.Answers.{coded}

-- ---- 6. The match. Its degrees are told on a refusal too, where they are 0; so what the two numbers
-- held before plays no part.

pub record ShxMatch (table pattern heading : List ℕ) (cut : ℕ) (spans sets : List ℕ) (r : ℕ) (spans' sets' : List ℕ) (lowest' highest' : ℕ) : Type 0 where
  pub answers : r ≡ coded (matched table pattern heading cut spans sets)
  pub spans_later : spans' ≡ later_spans table pattern heading cut spans sets
  pub sets_later : sets' ≡ later_sets table pattern heading cut spans sets
  pub lowest-later : lowest' ≡ lowest_in (matched table pattern heading cut spans sets)
  pub highest-later : highest' ≡ highest_in (matched table pattern heading cut spans sets)
