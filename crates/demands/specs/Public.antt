-- The public calls as users run them: any results, and any later contents of lent memory, that the calls' promises allow. (That each call's code ensures its
-- promise, and asks for nothing, is proved in the call's crate, proofs/Tied.)
use Rattle.std.specs.Prelude.{List, map, ℕ, Result}
use Rattle.theory.specs.Pairs.{Pair, pair}
use Rattle.table.specs.declared.read.Pair.{Pair as Record}
use Rattle.writer.specs.Said.{said}
use Rattle.refusal.specs.Outcomes.{result_of}
use Rattle.refusal.specs.declared.Degrees.{Degrees}
use Rattle.refusal.specs.declared.Refusal.{Refusal}
use Rattle.tables.specs.Tables.{said_table, IsTable, said_degree, SymbolDegree, said_arity, ArityOf, said_pair, PairAt}
use Rattle.headings.specs.Terms.{Nodes, DegreeOfHeadings, Subterm, Nearer}
use Rattle.matches.specs.Matching.{MatchHeading}
use Rattle.tables.specs.Writing.{WriteTable}
use Rattle.records.specs.Records.{WriteRecords}
use Rattle.saved.specs.Widening.{Widen}
use Rattle.exchange.specs.Said.{said as saidHeading}
use Rattle.exchange.specs.Heading.{ReadHeading}
use Rattle.exchange.specs.declared.Fault.{Fault}
use Rattle.demands.specs.Program.{Program}

-- What a match, a call that writes, and one that reads a heading, returned and left.
pub record Matching : Type 0 where
  pub outcome : Result Degrees Refusal
  pub spans : List ℕ
  pub sets : List ℕ

pub record Written : Type 0 where
  pub writing : Result ℕ Refusal
  pub output : List ℕ

pub record ReadFrom : Type 0 where
  pub headed : Result (Unit {0}) Fault
  pub nodes : List ℕ

-- What each call returned, for everything that was lent to it. A subterm and the nearer are handed back as references. There are two writers: one takes
-- records, the other numbers, three to a pair.
pub record Calls : Type 0 where
  pub is_table_lem : List ℕ → Result (Unit {0}) Refusal
  pub symbol_degree_lem : List ℕ → ℕ → ℕ → Result ℕ Refusal
  pub heading_degree : List ℕ → List ℕ → List ℕ → Result ℕ Refusal
  pub subterm : List ℕ → Nodes → ℕ → Nodes
  pub nearer : List ℕ → List ℕ → Nodes → Nodes → Nodes
  pub match : (table pattern heading : List ℕ) (cut : ℕ) (spans sets : List ℕ) → Matching
  pub write_records_lem : (arities : List ℕ) (records : List Record) (output : List ℕ) → Written
  pub write_table_lem : (arities numbers output : List ℕ) → Written
  pub arity_of_lem : List ℕ → ℕ → Result ℕ Refusal
  pub pair_of : List ℕ → ℕ → Result Record Refusal
  pub widen : (words output : List ℕ) → Written
  pub marc_heading : (bytes text ends numbers : List ℕ) (heading absent : ℕ) (nodes : List ℕ) → ReadFrom

-- Each result is one that the call's promise allows.
pub record Kept (C : Calls) : Type 0 where
  pub is_table_lem-is : (table : List ℕ) → IsTable table (C.is_table_lem table)
  pub symbol_degree_lem-is : (table : List ℕ) (a b : ℕ) → SymbolDegree table a b (C.symbol_degree_lem table a b)
  pub heading_degree_lem : (table one two : List ℕ) → DegreeOfHeadings table one two (C.heading_degree table one two)
  pub subterm : (table : List ℕ) (term : Nodes) (index : ℕ) → Subterm table term index (C.subterm table term index)
  pub nearer : (table heading : List ℕ) (one two : Nodes) → Nearer table heading one two (C.nearer table heading one two)
  pub match : (table pattern heading : List ℕ) (cut : ℕ) (spans sets : List ℕ)
      → let m = C.match table pattern heading cut spans sets in MatchHeading table pattern heading cut spans sets m.outcome m.spans m.sets
  pub write_records_lem-is : (arities : List ℕ) (records : List Record) (output : List ℕ)
      → let w = C.write_records_lem arities records output in WriteRecords arities records output w.writing w.output
  pub write_table_lem-is : (arities numbers output : List ℕ)
      → let w = C.write_table_lem arities numbers output in WriteTable arities numbers output w.writing w.output
  pub arity_of_lem-is : (table : List ℕ) (symbol : ℕ) → ArityOf table symbol (C.arity_of_lem table symbol)
  pub pair_of_lem : (table : List ℕ) (index : ℕ) → PairAt table index (C.pair_of table index)
  pub widen : (words output : List ℕ) → let w = C.widen words output in Widen words output w.writing w.output
  pub marc_heading_lem : (bytes text ends numbers : List ℕ) (heading absent : ℕ) (nodes : List ℕ)
      → let r = C.marc_heading bytes text ends numbers heading absent nodes in ReadHeading bytes text ends numbers heading absent nodes r.headed r.nodes

-- The records of pairs.
abbrev pub record_of : Pair → Record
record_of (pair lower higher degree) = record { lower = lower; higher = higher; degree = degree }

abbrev pub records_of : List Pair → List Record
records_of pairs = map record_of pairs

-- What the calls say, as a program: numbers, places, values and buffers, and the references that they handed back. Its writer is the one that takes records
-- (`OnNumbers` has the other).
abbrev pub program_of : Calls → Program
program_of C =
    record {
      is_table_lem = λ table. said_table (C.is_table_lem table);
      symbol_degree_lem = λ table a b. said_degree (C.symbol_degree_lem table a b);
      heading_degree = λ table one two. said_degree (C.heading_degree table one two);
      subterm = C.subterm;
      nearer = C.nearer;
      match = λ table pattern heading cut spans sets.
          let m = C.match table pattern heading cut spans sets in result_of m.outcome m.spans m.sets;
      write_table_lem = λ arities pairs output.
          let w = C.write_records_lem arities (records_of pairs) output in record { answer = said w.writing; output = w.output };
      arity_of_lem = λ table symbol. said_arity (C.arity_of_lem table symbol);
      pair_of = λ table index. said_pair (C.pair_of table index);
      widen = λ words output. let w = C.widen words output in record { answer = said w.writing; output = w.output };
      marc_heading = λ bytes text ends numbers heading absent nodes.
          let r = C.marc_heading bytes text ends numbers heading absent nodes in record { answer = saidHeading r.headed; output = r.nodes };
    }
