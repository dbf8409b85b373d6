-- Demand 2: the degree of two headings is the published one. A match that is not refused for its input or its room says 9 or 10 exactly if no
-- substitution brings the pattern to the cut; otherwise its matchers are just the substitutions drawn from the buffers, and its two degrees are
-- the lowest and the highest that a matcher has.
--
-- `DegreeOf` and `MatchOf` say that of one result, over the trees that the lists write (meaning/specs/Demands). What a substitution
-- gives to a variable of the pattern is a ground term over the table, of any size (`Matcher`, theory/specs/Table); what is drawn from the buffers is
-- read off spans and bits (`DrawnFrom`, meaning/specs/Buffers).
use Rattle.std.specs.Prelude.{◌≡◌, List, ℕ}
use Rattle.std.proofs.Math.Option.{none}
use Rattle.meaning.specs.Refusals.{first}
use Rattle.meaning.specs.Calls.{degree_rows}
use Rattle.meaning.specs.Demands.{Accepted, Demand2-degree as DegreeOf, Demand2 as MatchOf}
use Rattle.demands.specs.Program.{Program}

pub record Demand2 (P : Program) : Type 0 where
  pub degree : (table one two : List ℕ) → first (degree_rows table one two) ≡ none → DegreeOf table one two (P.heading_degree table one two)
  pub match : (table pattern heading : List ℕ) (cut : ℕ) (spans sets : List ℕ) → Accepted table pattern heading cut spans sets
      → MatchOf table pattern heading cut (P.match table pattern heading cut spans sets)
