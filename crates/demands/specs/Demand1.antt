-- Demand 1: for everything that can be lent, each call is refused exactly by the first of its rows that holds, at that row's place; and what is left in lent
-- memory is fixed (`Leaves`: both buffers as they were by 1 to 8, zeros by 9 and 10, and zeros wherever an answered match packs nothing).
--
-- In which order the rows of a call stand, whatever is lent, is a law of the rows alone (`order`, meaning/proofs/First). A refused match returns no degrees:
-- its answer has no room for them; for C, where they go to two lent numbers, that these are 0 then is in the promise of the call (`ShxMatch` of `capi`).
use Rattle.std.specs.Prelude.{◌≡◌, ◌↔◌, ◌⊎◌, List, ℕ, ◌≤◌, length}
use Rattle.theory.specs.Pairs.{Pair}
use Rattle.meaning.specs.File.{symbol_count_lem, pair_count_lem}
use Rattle.meaning.specs.Refusals.{Row, Given, table_rows}
use Rattle.meaning.specs.Calls.{refused, symbol_rows, degree_rows, subterm_rows, nearer_rows, match_rows, writer_rows, back_rows}
use Rattle.meaning.specs.Saved.{widen_rows}
use Rattle.meaning.specs.Demands.{Exactly}
use Rattle.meaning.specs.Matching.{Leaves, Lengths}
use Rattle.headings.specs.Terms.{Nodes}
use Rattle.marc.specs.Known.{known_in}
use Rattle.marc.specs.Heading.{heading_rows}
use Rattle.marc.specs.Reading.{HeadingLeaves}
use Rattle.demands.specs.Program.{Program}
use Rattle.demands.specs.Handed.{EmptyAt}

-- One of the rows refuses.
abbrev pub Refuses : List Row → Type 0
Refuses rows = (n : ℕ) × (place : ℕ) × Given rows n place

pub record Demand1 (P : Program) : Type 0 where
  -- refusals with a number and a place
  pub is_table_lem-is : (table : List ℕ) → Exactly (table_rows table) (P.is_table_lem table)
  pub symbol_degree_lem-is : (table : List ℕ) (a b : ℕ) → Exactly (symbol_rows table a b) (P.symbol_degree_lem table a b)
  pub heading_degree_lem : (table one two : List ℕ) → Exactly (degree_rows table one two) (P.heading_degree table one two)
  pub match : (table pattern heading : List ℕ) (cut : ℕ) (spans sets : List ℕ)
      → Exactly (match_rows table pattern heading cut spans sets) (P.match table pattern heading cut spans sets).answer
  pub write_table_lem-is : (arities : List ℕ) (pairs : List Pair) (output : List ℕ) → Exactly (writer_rows arities pairs output) (P.write_table_lem arities pairs output).answer
  pub arity_of_lem-is : (table : List ℕ) (symbol : ℕ) → Exactly (back_rows table symbol (symbol_count_lem table)) (P.arity_of_lem table symbol)
  pub pair_of_lem : (table : List ℕ) (index : ℕ) → Exactly (back_rows table index (pair_count_lem table)) (P.pair_of table index)
  pub widen : (words output : List ℕ) → Exactly (widen_rows words output) (P.widen words output).answer
  pub marc_heading_lem : (bytes text ends numbers : List ℕ) (heading absent : ℕ) (nodes : List ℕ)
      → Exactly (heading_rows bytes (known_in text ends numbers) heading absent nodes) (P.marc_heading bytes text ends numbers heading absent nodes).answer
  -- refusals that show in what is handed back
  pub subterm : (table : List ℕ) (term : Nodes) (i : ℕ) → EmptyAt term (P.subterm table term i) ↔ (Refuses (subterm_rows table term.now) ⊎ (length term.now ≤ i))
  pub nearer : (table heading : List ℕ) (one two : Nodes) → EmptyAt one (P.nearer table heading one two) ↔ Refuses (nearer_rows table heading one.now two.now)
  -- what is left in lent memory
  pub match_leaves : (table pattern heading : List ℕ) (cut : ℕ) (spans sets : List ℕ) → Leaves spans sets (P.match table pattern heading cut spans sets)
  pub writer_leaves : (arities : List ℕ) (pairs : List Pair) (output : List ℕ) (n place : ℕ)
      → (P.write_table_lem arities pairs output).answer ≡ refused n place → (P.write_table_lem arities pairs output).output ≡ output
  pub widen_leaves : (words output : List ℕ) (n place : ℕ) → (P.widen words output).answer ≡ refused n place → (P.widen words output).output ≡ output
  pub heading_leaves : (bytes text ends numbers : List ℕ) (heading absent : ℕ) (nodes : List ℕ) → HeadingLeaves nodes (P.marc_heading bytes text ends numbers heading absent nodes)
  pub lengths : Lengths P.match P.write_table_lem
