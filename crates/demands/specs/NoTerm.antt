-- Which lists the program refuses as no terms, over any table that it accepts: by 6 a list that is to be a pattern, or the first of two headings, and by 7 a
-- heading, exactly if it writes no tree within the limits and nothing before it is refused. Which lists write a tree is `IsTerm` (meaning/specs/Parts).
use Rattle.std.specs.Prelude.{◌≡◌, ◌↔◌, List, Bool, true, false, ℕ, ◌≤◌}
use Rattle.theory.specs.Tree.{Pattern}
use Rattle.theory.specs.Table.{Table}
use Rattle.meaning.specs.File.{table_in}
use Rattle.meaning.specs.Calls.{Answer, refused}
use Rattle.meaning.specs.Parts.{IsTerm}
use Rattle.demands.specs.Program.{Program}

-- The list writes some tree, with variables only where they are permitted.
abbrev pub ATerm : Table → Bool → List ℕ → Type 0
ATerm T vars list = (p : Pattern) × IsTerm T vars list p

abbrev pub NoTerm : Table → Bool → List ℕ → Type 0
NoTerm T vars list = ATerm T vars list → ⊥

-- It is refused by n, wherever.
abbrev pub RefusedBy : {A : Type 0} → ℕ → Answer A → Type 0
RefusedBy n answer = (place : ℕ) × (answer ≡ refused n place)

abbrev pub IsCut : ℕ → Type 0
IsCut cut = (1 ≤ cut) × (cut ≤ 1000)

pub record RefusesNoTerms (P : Program) (table : List ℕ) : Type 0 where
  -- the degree of two headings
  pub first_heading : (one two : List ℕ) → RefusedBy 6 (P.heading_degree table one two) ↔ NoTerm (table_in table) false one
  pub second_heading : (one two : List ℕ) → RefusedBy 7 (P.heading_degree table one two) ↔ (ATerm (table_in table) false one × NoTerm (table_in table) false two)
  -- the match, whose cut is asked for before
  pub pattern : (pattern heading : List ℕ) (cut : ℕ) (spans sets : List ℕ)
      → RefusedBy 6 (P.match table pattern heading cut spans sets).answer ↔ (IsCut cut × NoTerm (table_in table) true pattern)
  pub heading : (pattern heading : List ℕ) (cut : ℕ) (spans sets : List ℕ)
      → RefusedBy 7 (P.match table pattern heading cut spans sets).answer ↔ (IsCut cut × ATerm (table_in table) true pattern × NoTerm (table_in table) false heading)
