-- A program: what each call gives and leaves in lent memory, for everything that can be lent to it. The subterm and the nearer hand back a list of the
-- caller's, as a reference: what it holds and where it lies. Reading back is two calls; the last two are the converter of saved answers, and the call that
-- reads a heading from an exchange record by a list of known strings.
use Rattle.std.specs.Prelude.{◌≡◌, List, ℕ}
use Rattle.theory.specs.Pairs.{Pair}
use Rattle.meaning.specs.Calls.{Answer, Yes, is_table_lem, symbol_degree_lem, heading_degree, Matched, match_call, arity_back, pair_back}
use Rattle.meaning.specs.Tables.{Wrote, write_call}
use Rattle.meaning.specs.Saved.{widen_call}
use Rattle.headings.specs.Terms.{Nodes, Subterm, Nearer}
use Rattle.marc.specs.Known.{known_in}
use Rattle.marc.specs.Heading.{HeadedBy, heading_call}

pub record Program : Type 0 where
  pub is_table_lem : (table : List ℕ) → Answer Yes
  pub symbol_degree_lem : (table : List ℕ) (a b : ℕ) → Answer ℕ
  pub heading_degree : (table one two : List ℕ) → Answer ℕ
  pub subterm : (table : List ℕ) (term : Nodes) (i : ℕ) → Nodes
  pub nearer : (table heading : List ℕ) (one two : Nodes) → Nodes
  pub match : (table pattern heading : List ℕ) (cut : ℕ) (spans sets : List ℕ) → Matched
  pub write_table_lem : (arities : List ℕ) (pairs : List Pair) (output : List ℕ) → Wrote
  pub arity_of_lem : (table : List ℕ) (symbol : ℕ) → Answer ℕ
  pub pair_of : (table : List ℕ) (index : ℕ) → Answer Pair
  pub widen : (words output : List ℕ) → Wrote
  pub marc_heading : (bytes text ends numbers : List ℕ) (heading absent : ℕ) (nodes : List ℕ) → HeadedBy

-- What the program promises: that each call gives, and leaves in lent memory, what the meaning says; and that a list is handed back as the promises of
-- the two calls say.
pub record Promise (P : Program) : Type 0 where
  pub is_table_lem-is : (table : List ℕ) → P.is_table_lem table ≡ is_table_lem table
  pub symbol_degree_lem-is : (table : List ℕ) (a b : ℕ) → P.symbol_degree_lem table a b ≡ symbol_degree_lem table a b
  pub heading_degree_lem : (table one two : List ℕ) → P.heading_degree table one two ≡ heading_degree table one two
  pub subterm : (table : List ℕ) (term : Nodes) (i : ℕ) → Subterm table term i (P.subterm table term i)
  pub nearer : (table heading : List ℕ) (one two : Nodes) → Nearer table heading one two (P.nearer table heading one two)
  pub match : (table pattern heading : List ℕ) (cut : ℕ) (spans sets : List ℕ) → P.match table pattern heading cut spans sets ≡ match_call table pattern heading cut spans sets
  pub write_table_lem-is : (arities : List ℕ) (pairs : List Pair) (output : List ℕ) → P.write_table_lem arities pairs output ≡ write_call arities pairs output
  pub arity_of_lem-is : (table : List ℕ) (symbol : ℕ) → P.arity_of_lem table symbol ≡ arity_back table symbol
  pub pair_of_lem : (table : List ℕ) (index : ℕ) → P.pair_of table index ≡ pair_back table index
  pub widen : (words output : List ℕ) → P.widen words output ≡ widen_call words output
  pub marc_heading_lem : (bytes text ends numbers : List ℕ) (heading absent : ℕ) (nodes : List ℕ)
      → P.marc_heading bytes text ends numbers heading absent nodes ≡ heading_call bytes (known_in text ends numbers) heading absent nodes

-- Two programs that no caller can tell apart: every call gives the same; of a list that is handed back, what it holds and where it lies. (The prover gives
-- a part of a list a name of its own besides.)
pub record Alike (P Q : Program) : Type 0 where
  pub is_table_lem-is : (table : List ℕ) → P.is_table_lem table ≡ Q.is_table_lem table
  pub symbol_degree_lem-is : (table : List ℕ) (a b : ℕ) → P.symbol_degree_lem table a b ≡ Q.symbol_degree_lem table a b
  pub heading_degree_lem : (table one two : List ℕ) → P.heading_degree table one two ≡ Q.heading_degree table one two
  pub subterm : (table : List ℕ) (term : Nodes) (i : ℕ)
      → ((P.subterm table term i).now ≡ (Q.subterm table term i).now) × ((P.subterm table term i).ref_ptr ≡ (Q.subterm table term i).ref_ptr)
  pub nearer : (table heading : List ℕ) (one two : Nodes)
      → ((P.nearer table heading one two).now ≡ (Q.nearer table heading one two).now) × ((P.nearer table heading one two).ref_ptr ≡ (Q.nearer table heading one two).ref_ptr)
  pub match : (table pattern heading : List ℕ) (cut : ℕ) (spans sets : List ℕ) → P.match table pattern heading cut spans sets ≡ Q.match table pattern heading cut spans sets
  pub write_table_lem-is : (arities : List ℕ) (pairs : List Pair) (output : List ℕ) → P.write_table_lem arities pairs output ≡ Q.write_table_lem arities pairs output
  pub arity_of_lem-is : (table : List ℕ) (symbol : ℕ) → P.arity_of_lem table symbol ≡ Q.arity_of_lem table symbol
  pub pair_of_lem : (table : List ℕ) (index : ℕ) → P.pair_of table index ≡ Q.pair_of table index
  pub widen : (words output : List ℕ) → P.widen words output ≡ Q.widen words output
  pub marc_heading_lem : (bytes text ends numbers : List ℕ) (heading absent : ℕ) (nodes : List ℕ)
      → P.marc_heading bytes text ends numbers heading absent nodes ≡ Q.marc_heading bytes text ends numbers heading absent nodes
