-- The calls for C as users run them: any codes, and any later contents of what was lent, that the promises of the exports allow. Read as the header
-- says, they are a program, so that the demands are on them too.
use Rattle.std.specs.Prelude.{◌≡◌, ◌↔◌, List, cond, ℕ, ◌+◌, ◌*◌, ◌/◌, ◌%◌, ◌≤◌, ◌<◌, eqb, leb, length, take, drop}
use Rattle.theory.specs.Pairs.{Pair, pair}
use Rattle.meaning.specs.Calls.{Answer, refused, gives, aye, degrees, nearer_rows}
use Rattle.table.specs.declared.read.Pair.{Pair as Record}
use Rattle.headings.specs.Terms.{Nodes}
use Rattle.marc.specs.Known.{known_in}
use Rattle.marc.specs.Heading.{HeadedBy, heading_call}
use Rattle.capi.specs.Tables.{ShxTable, ShxSymbolDegree, ShxArity, ShxPair}
use Rattle.capi.specs.Terms.{ShxHeadingDegree, ShxSubterm, ShxNearer}
use Rattle.capi.specs.Matching.{ShxMatch}
use Rattle.capi.specs.Writing.{ShxWriteTable}
use Rattle.capi.specs.Saving.{ShxWiden}
use Rattle.capi.specs.Marc.{highest_place, ShxMarcHeading}
use Rattle.demands.specs.Program.{Program}
use Rattle.demands.specs.Demand1.{Refuses}
use Rattle.demands.specs.Public.{records_of}

-- ---- what the exports return and leave

-- A number that is lent for an answer: what it held, whatever that was, and what it holds later.
pub record Cell : Type 0 where
  pub before : ℕ
  pub after : ℕ

-- A code, with one number, with a pair's three, with a match's two and its buffers later, with an output later and how much was written,
-- with nodes later.
pub record CNumber : Type 0 where
  pub code : ℕ
  pub number : Cell

pub record CPair : Type 0 where
  pub code : ℕ
  pub lower : Cell
  pub higher : Cell
  pub degree : Cell

pub record CMatch : Type 0 where
  pub code : ℕ
  pub spans : List ℕ
  pub sets : List ℕ
  pub lowest : Cell
  pub highest : Cell

pub record CWriting : Type 0 where
  pub code : ℕ
  pub output : List ℕ
  pub count : Cell

pub record CHeading : Type 0 where
  pub code : ℕ
  pub nodes : List ℕ

-- A list of known strings that can be lent: each string has a place of 48 bits. The ends and numbers of a longer one have more
-- than 2^50 bytes, which no memory holds.
abbrev pub most_strings : ℕ
most_strings = 1 + highest_place

-- What each export returned and left, for everything that was lent to it.
pub record CCalls : Type 0 where
  pub table : (table : List ℕ) → ℕ
  pub symbol_degree_lem : (table : List ℕ) (a b : ℕ) → CNumber
  pub heading_degree : (table one two : List ℕ) → CNumber
  pub subterm : (table term : List ℕ) (index : ℕ) → ℕ
  pub nearer : (table heading one two : List ℕ) → ℕ
  pub match : (table pattern heading : List ℕ) (cut : ℕ) (spans sets : List ℕ) → CMatch
  pub write_table_lem : (arities : List ℕ) (records : List Record) (output : List ℕ) → CWriting
  pub arity : (table : List ℕ) (symbol : ℕ) → CNumber
  pub pair : (table : List ℕ) (index : ℕ) → CPair
  pub widen : (words output : List ℕ) → CWriting
  pub marc_heading : (bytes text ends numbers : List ℕ) (heading absent : ℕ) (nodes : List ℕ) → CHeading

-- Each is one that the export's promise allows; on an exchange record, with any list that can be lent.
pub record CKept (C : CCalls) : Type 0 where
  pub table : (table : List ℕ) → ShxTable table (C.table table)
  pub symbol_degree_lem-is : (table : List ℕ) (a b : ℕ) → let r = C.symbol_degree_lem table a b in ShxSymbolDegree table a b r.number.before r.code r.number.after
  pub heading_degree_lem : (table one two : List ℕ) → let r = C.heading_degree table one two in ShxHeadingDegree table one two r.number.before r.code r.number.after
  pub subterm : (table term : List ℕ) (index : ℕ) → ShxSubterm table term index (C.subterm table term index)
  pub nearer : (table heading one two : List ℕ) → ShxNearer table heading one two (C.nearer table heading one two)
  pub match : (table pattern heading : List ℕ) (cut : ℕ) (spans sets : List ℕ)
      → let r = C.match table pattern heading cut spans sets in ShxMatch table pattern heading cut spans sets r.code r.spans r.sets r.lowest.after r.highest.after
  pub write_table_lem-is : (arities : List ℕ) (records : List Record) (output : List ℕ)
      → let r = C.write_table_lem arities records output in ShxWriteTable arities records output r.count.before r.code r.output r.count.after
  pub arity : (table : List ℕ) (symbol : ℕ) → let r = C.arity table symbol in ShxArity table symbol r.number.before r.code r.number.after
  pub pair : (table : List ℕ) (index : ℕ)
      → let r = C.pair table index in ShxPair table index r.lower.before r.higher.before r.degree.before r.code r.lower.after r.higher.after r.degree.after
  pub widen : (words output : List ℕ) → let r = C.widen words output in ShxWiden words output r.count.before r.code r.output r.count.after
  pub marc_heading_lem : (bytes text ends numbers : List ℕ) (heading absent : ℕ) (nodes : List ℕ) → length (known_in text ends numbers) ≤ most_strings
      → let r = C.marc_heading bytes text ends numbers heading absent nodes in ShxMarcHeading bytes text ends numbers heading absent nodes r.code r.nodes

-- ---- how a caller reads them

-- A code: 0 says that the call gave what now stands behind its pointers; any other has the refusal's number in its low 16 bits and the place above.
abbrev pub answer_of : {A : Type 0} → ℕ → A → Answer A
answer_of code a = cond (eqb code 0) (gives a) (refused (code % 65536) (code / 65536))

-- Part of a list that was lent, so many nodes from `start` on. A node has two bytes.
abbrev pub part_from : Nodes → ℕ → ℕ → Nodes
part_from list start count = record { ref_ptr = (list.ref_ptr.0, list.ref_ptr.1 + 2 * start); now = take count (drop start list.now) }

-- A subterm by its number of nodes: they stand from the index on; no nodes are the part of none where the list begins.
abbrev pub subterm_of : Nodes → ℕ → ℕ → Nodes
subterm_of term index count = cond (eqb count 0) (part_from term 0 0) (part_from term index count)

-- The nearer by its number: the first candidate, the second, or the empty part at the first one's start.
abbrev pub nearer_of : Nodes → Nodes → ℕ → Nodes
nearer_of one two which = cond (eqb which 1) one (cond (eqb which 2) two (part_from one 0 0))

-- A heading that was read, by its code.
abbrev pub heading_of : CHeading → HeadedBy
heading_of r = record { answer = answer_of r.code aye; output = r.nodes }

-- What is read so can be: the list has so many nodes from the index on; and no other number is returned for a candidate, 0 just where something is
-- refused.
pub record InRange (C : CCalls) : Type 0 where
  pub nodes : (table term : List ℕ) (index : ℕ) → 0 < C.subterm table term index → index + C.subterm table term index ≤ length term
  pub candidates : (table heading one two : List ℕ) → C.nearer table heading one two ≤ 2
  pub neither : (table heading one two : List ℕ) → C.nearer table heading one two ≡ 0 ↔ Refuses (nearer_rows table heading one two)

-- With a list that cannot be lent there is no call for C; the program is what the call means there.
abbrev pub program_of_c : CCalls → Program
program_of_c C =
    record {
      is_table_lem = λ table. answer_of (C.table table) aye;
      symbol_degree_lem = λ table a b. let r = C.symbol_degree_lem table a b in answer_of r.code r.number.after;
      heading_degree = λ table one two. let r = C.heading_degree table one two in answer_of r.code r.number.after;
      subterm = λ table term index. subterm_of term index (C.subterm table term.now index);
      nearer = λ table heading one two. nearer_of one two (C.nearer table heading one.now two.now);
      match = λ table pattern heading cut spans sets.
          let r = C.match table pattern heading cut spans sets in
          record { answer = answer_of r.code (degrees r.lowest.after r.highest.after); spans = r.spans; sets = r.sets };
      write_table_lem = λ arities pairs output.
          let r = C.write_table_lem arities (records_of pairs) output in record { answer = answer_of r.code r.count.after; output = r.output };
      arity_of_lem = λ table symbol. let r = C.arity table symbol in answer_of r.code r.number.after;
      pair_of = λ table index.
          let r = C.pair table index in answer_of r.code (pair r.lower.after r.higher.after r.degree.after);
      widen = λ words output. let r = C.widen words output in record { answer = answer_of r.code r.count.after; output = r.output };
      marc_heading = λ bytes text ends numbers heading absent nodes.
          cond (leb (length (known_in text ends numbers)) most_strings) (heading_of (C.marc_heading bytes text ends numbers heading absent nodes))
          (heading_call bytes (known_in text ends numbers) heading absent nodes);
    }

-- ---- what a refused call leaves behind its pointers

abbrev pub Untouched : Cell → Type 0
Untouched c = c.after ≡ c.before

-- What they held, but for the degrees of a match, which are 0 then.
pub record RefusedLeaves (C : CCalls) : Type 0 where
  pub symbol_degree_lem-is : (table : List ℕ) (a b n place : ℕ) → (program_of_c C).symbol_degree_lem table a b ≡ refused n place → Untouched (C.symbol_degree_lem table a b).number
  pub heading_degree_lem : (table one two : List ℕ) (n place : ℕ) → (program_of_c C).heading_degree table one two ≡ refused n place → Untouched (C.heading_degree table one two).number
  pub match : (table pattern heading : List ℕ) (cut : ℕ) (spans sets : List ℕ) (n place : ℕ) → ((program_of_c C).match table pattern heading cut spans sets).answer ≡ refused n place
      → let r = C.match table pattern heading cut spans sets in (r.lowest.after ≡ 0) × (r.highest.after ≡ 0)
  pub write_table_lem-is : (arities : List ℕ) (pairs : List Pair) (output : List ℕ) (n place : ℕ) → ((program_of_c C).write_table_lem arities pairs output).answer ≡ refused n place
      → Untouched (C.write_table_lem arities (records_of pairs) output).count
  pub arity : (table : List ℕ) (symbol n place : ℕ) → (program_of_c C).arity_of_lem table symbol ≡ refused n place → Untouched (C.arity table symbol).number
  pub pair : (table : List ℕ) (index n place : ℕ) → (program_of_c C).pair_of table index ≡ refused n place
      → let r = C.pair table index in Untouched r.lower × Untouched r.higher × Untouched r.degree
  pub widen : (words output : List ℕ) (n place : ℕ) → ((program_of_c C).widen words output).answer ≡ refused n place → Untouched (C.widen words output).count
