-- Of every public call: any two results that its promise allows, and any two later contents of lent memory, are equal. A part of a list, which
-- is handed back as a reference of its own, is the same in what it holds and where it lies.
use Rattle.std.specs.Prelude.{◌≡◌, List, ℕ, Option, Result}
use Rattle.table.specs.declared.read.Pair.{Pair as Record}
use Rattle.refusal.specs.declared.Degrees.{Degrees}
use Rattle.refusal.specs.declared.Refusal.{Refusal}
use Rattle.tables.specs.Tables.{IsTable, SymbolDegree, ArityOf, PairAt}
use Rattle.headings.specs.declared.Candidate.{Candidate}
use Rattle.headings.specs.Terms.{Nodes, DegreeOfHeadings, Subterm, Nearer, Choose}
use Rattle.matches.specs.Matching.{MatchHeading}
use Rattle.tables.specs.Writing.{WriteTable}
use Rattle.records.specs.Records.{WriteRecords}
use Rattle.saved.specs.Widening.{Widen}
use Rattle.exchange.specs.Heading.{ReadHeading}
use Rattle.exchange.specs.declared.Fault.{Fault}

pub record Unique : Type 0 where
  pub is_table_lem-is : (table : List ℕ) (r s : Result (Unit {0}) Refusal) → IsTable table r → IsTable table s → r ≡ s
  pub symbol_degree_lem-is : (table : List ℕ) (a b : ℕ) (r s : Result ℕ Refusal) → SymbolDegree table a b r → SymbolDegree table a b s → r ≡ s
  pub heading_degree_lem : (table one two : List ℕ) (r s : Result ℕ Refusal) → DegreeOfHeadings table one two r → DegreeOfHeadings table one two s → r ≡ s
  pub subterm : (table : List ℕ) (term : Nodes) (index : ℕ) (r s : Nodes) → Subterm table term index r → Subterm table term index s
      → (r.now ≡ s.now) × (r.ref_ptr ≡ s.ref_ptr)
  pub nearer : (table heading : List ℕ) (one two : Nodes) (r s : Nodes) → Nearer table heading one two r → Nearer table heading one two s
      → (r.now ≡ s.now) × (r.ref_ptr ≡ s.ref_ptr)
  pub choose : (table heading one two : List ℕ) (r s : Option Candidate) → Choose table heading one two r → Choose table heading one two s → r ≡ s
  pub match : (table pattern heading : List ℕ) (cut : ℕ) (spans sets : List ℕ) (r r' : Result Degrees Refusal) (s s' t t' : List ℕ)
      → MatchHeading table pattern heading cut spans sets r s t → MatchHeading table pattern heading cut spans sets r' s' t'
      → (r ≡ r') × (s ≡ s') × (t ≡ t')
  pub write_records_lem-is : (arities : List ℕ) (records : List Record) (output : List ℕ) (r s : Result ℕ Refusal) (later after : List ℕ)
      → WriteRecords arities records output r later → WriteRecords arities records output s after → (r ≡ s) × (later ≡ after)
  pub write_table_lem-is : (arities numbers output : List ℕ) (r s : Result ℕ Refusal) (later after : List ℕ)
      → WriteTable arities numbers output r later → WriteTable arities numbers output s after → (r ≡ s) × (later ≡ after)
  pub arity_of_lem-is : (table : List ℕ) (symbol : ℕ) (r s : Result ℕ Refusal) → ArityOf table symbol r → ArityOf table symbol s → r ≡ s
  pub pair_of_lem : (table : List ℕ) (index : ℕ) (r s : Result Record Refusal) → PairAt table index r → PairAt table index s → r ≡ s
  pub widen : (words output : List ℕ) (r s : Result ℕ Refusal) (later after : List ℕ) → Widen words output r later → Widen words output s after → (r ≡ s) × (later ≡ after)
  pub marc_heading_lem : (bytes text ends numbers : List ℕ) (heading absent : ℕ) (nodes : List ℕ) (r s : Result (Unit {0}) Fault) (later after : List ℕ)
      → ReadHeading bytes text ends numbers heading absent nodes r later → ReadHeading bytes text ends numbers heading absent nodes s after → (r ≡ s) × (later ≡ after)
