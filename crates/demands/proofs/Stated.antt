-- What is stated of one match, gathered from the demands and from what else is said of it. An answered one was not refused for its input or its room, as
-- it is refused exactly by its rows.
use mathlib.Core.Path.{◌≡◌}
use mathlib.Core.List.{List}
use Prim.Native.Nat.{ℕ}
use lib.ListN.{length}
use Rattle.theory.specs.Tree.{Term, Pattern}
use Rattle.meaning.specs.File.{table_in}
use Rattle.meaning.specs.Calls.{gives, Degrees, Matched, input_rows, search_rows, match_rows}
use Rattle.meaning.specs.Demands.{Exactly, WritesTerm, WritesPattern, Accepted, Demand2 as MatchOf}
use Rattle.meaning.specs.Matching.{Leaves}
use Rattle.meaning.proofs.First.{append-none}
use Rattle.demands.specs.Program.{Program}
use Rattle.demands.specs.Demand1.{Demand1}
use Rattle.demands.specs.Demand2.{Demand2}
use Rattle.demands.specs.Further.{MatchSays}
use Rattle.demands.proofs.Exact.{of_answer}

pub record Stated (table pattern heading : List ℕ) (cut : ℕ) (spans sets : List ℕ) (r : Matched) : Type 0 where
  pub exactly : Exactly (match_rows table pattern heading cut spans sets) r.answer
  pub leaves : Leaves spans sets r
  pub spans_long : length r.spans ≡ length spans
  pub sets_long : length r.sets ≡ length sets
  pub decided : Accepted table pattern heading cut spans sets → MatchOf table pattern heading cut r
  pub says : Accepted table pattern heading cut spans sets → (p : Pattern) → WritesPattern (table_in table) pattern p → (h : Term) → WritesTerm (table_in table) heading h
      → MatchSays (table_in table) cut p h pattern r

-- .. and so of each match of a program that meets the demands, if so much is said of it
pub stated : (P : Program) → Demand1 P → Demand2 P → (table pattern heading : List ℕ) (cut : ℕ) (spans sets : List ℕ)
    → (Accepted table pattern heading cut spans sets → (p : Pattern) → WritesPattern (table_in table) pattern p → (h : Term) → WritesTerm (table_in table) heading h
    → MatchSays (table_in table) cut p h pattern (P.match table pattern heading cut spans sets))
    → Stated table pattern heading cut spans sets (P.match table pattern heading cut spans sets)
stated P one two table pattern heading cut spans sets says =
    record {
      exactly = one.match table pattern heading cut spans sets;
      leaves = one.match_leaves table pattern heading cut spans sets;
      spans_long = one.lengths.of_spans table pattern heading cut spans sets;
      sets_long = one.lengths.of_sets table pattern heading cut spans sets;
      decided = two.match table pattern heading cut spans sets;
      says = says;
    }

module _ (table pattern heading : List ℕ) (cut : ℕ) (spans sets : List ℕ) (r : Matched) (x : Stated table pattern heading cut spans sets r) where
  -- LAW
  pub answered_accepted : (d : Degrees) → r.answer ≡ gives d → Accepted table pattern heading cut spans sets
  unfolding match_rows
  answered_accepted d e =
      (append-none (input_rows table pattern heading cut spans sets) (search_rows table pattern heading cut)
      (of_answer (match_rows table pattern heading cut spans sets) r.answer x.exactly d e)).0
