-- What else is said of a program's calls: on tables, on headings and their parts, on the match, on saved answers, on exchange records.
use Rattle.std.specs.Prelude.{◌≡◌, ◌↔◌, List, ◌++◌, ℕ, ◌*◌, ◌≤◌, ◌<◌, length, get_or, drop}
use Rattle.std.proofs.Math.Option.{none}
use Rattle.theory.specs.Tree.{Term, Pattern}
use Rattle.theory.specs.Table.{Table, Richer}
use Rattle.theory.specs.Pairs.{Pair}
use Rattle.meaning.specs.File.{table_in}
use Rattle.meaning.specs.Refusals.{first, SoundFile}
use Rattle.meaning.specs.Limits.{set_words_lem}
use Rattle.meaning.specs.Calls.{Answer, refused, gives, degree_rows, aye, Degrees, degrees, faces_in, Matched}
use Rattle.meaning.specs.Demands.{WritesTerm, WritesPattern, Accepted}
use Rattle.meaning.specs.Tables.{TableFile, TopNotListed, TopNotWritten, SymbolDegrees, MadeRicher, ReadBack, RoundTrip}
use Rattle.meaning.specs.Saved.{saved_room, Widens, left_then}
use Rattle.meaning.specs.Faults.{HeadingFaults, MatchFaults}
use Rattle.meaning.specs.Matching.{Reasons, SetsAndDegrees, VariableDegrees, PackedInOrder, NoOverlap}
use Rattle.meaning.specs.TopCut.{MatchersMakeIt, AtTopCut}
use Rattle.demands.specs.Program.{Program}
use Rattle.demands.specs.Handed.{HandedBack}
use Rattle.demands.specs.NoTerm.{RefusesNoTerms}
use Rattle.demands.specs.Richer.{LosesNothing}
use Rattle.demands.specs.RecordHeadings.{RecordHeadings}

-- ---- headings, by what the program itself says of symbols and of headings

-- The degree d of two headings is the lowest over all symbols that stand at one place in both lists; it is 0 where one list is longer.
pub record LowestPaired (degree_of : ℕ → ℕ → Answer ℕ) (one two : List ℕ) (d : ℕ) : Type 0 where
  pub one_longer : (length one ≡ length two → ⊥) → d ≡ 0
  pub bounds : length one ≡ length two → (k : ℕ) → k < length one → (e : ℕ) → degree_of (get_or one k 0) (get_or two k 0) ≡ gives e → d ≤ e
  pub reached : length one ≡ length two → (k : ℕ) × (k < length one) × (degree_of (get_or one k 0) (get_or two k 0) ≡ gives d)

-- ---- a match that is not refused for its input or its room, of a list that writes p and one that writes h: the reasons of a refusal; the sets and
-- the degrees of an answer, those of each variable, where its variables are packed, and why they always fit
pub record MatchSays (T : Table) (cut : ℕ) (p : Pattern) (h : Term) (pattern : List ℕ) (r : Matched) : Type 0 where
  pub reasons : Reasons T cut p h pattern r
  pub sets_and_degrees : (low high : ℕ) → r.answer ≡ gives (degrees low high) → SetsAndDegrees T cut p h r low high
  pub own_degrees : (low high : ℕ) → r.answer ≡ gives (degrees low high) → VariableDegrees T cut p h r low high
  pub packed : (d : Degrees) → r.answer ≡ gives d → PackedInOrder p r
  pub no_overlap : NoOverlap p h r

-- ---- 13 is for the degree of two symbol numbers: no other call gives it

abbrev pub Never13 : {A : Type 0} → Answer A → Type 0
Never13 answer = (place : ℕ) → answer ≡ refused 13 place → ⊥

pub record NamedThereAlone (P : Program) : Type 0 where
  pub is_table_lem-is : (table : List ℕ) → Never13 (P.is_table_lem table)
  pub heading_degree_lem : (table one two : List ℕ) → Never13 (P.heading_degree table one two)
  pub match : (table pattern heading : List ℕ) (cut : ℕ) (spans sets : List ℕ) → Never13 (P.match table pattern heading cut spans sets).answer
  pub write_table_lem-is : (arities : List ℕ) (pairs : List Pair) (output : List ℕ) → Never13 (P.write_table_lem arities pairs output).answer
  pub arity_of_lem-is : (table : List ℕ) (symbol : ℕ) → Never13 (P.arity_of_lem table symbol)
  pub pair_of_lem : (table : List ℕ) (index : ℕ) → Never13 (P.pair_of table index)
  pub widen : (words output : List ℕ) → Never13 (P.widen words output).answer
  pub marc_heading_lem : (bytes text ends numbers : List ℕ) (heading absent : ℕ) (nodes : List ℕ) → Never13 (P.marc_heading bytes text ends numbers heading absent nodes).answer

pub record Further (P : Program) : Type 0 where
  -- tables
  pub recognised : (file : List ℕ) → P.is_table_lem file ≡ gives aye ↔ TableFile file
  pub top_not_listed : (file : List ℕ) → TopNotListed file (P.is_table_lem file)
  pub top_not_written : (arities : List ℕ) (pairs : List Pair) (output : List ℕ) → TopNotWritten pairs (P.write_table_lem arities pairs output).answer
  pub symbol_degrees : (table : List ℕ) → SoundFile table → SymbolDegrees table (P.symbol_degree_lem table)
  pub named_there_alone : NamedThereAlone P
  pub reads_back : (table : List ℕ) → SoundFile table → ReadBack table (P.arity_of_lem table) (P.pair_of table)
  pub round_trip : RoundTrip P.write_table_lem
  -- headings and their parts: which lists are refused as no terms, and at which place
  pub terms : (table : List ℕ) → P.is_table_lem table ≡ gives aye → RefusesNoTerms P table
  pub heading_faults : HeadingFaults P.heading_degree
  pub match_faults : MatchFaults P.match
  pub paired : (table one two : List ℕ) (d : ℕ) → P.heading_degree table one two ≡ gives d → LowestPaired (P.symbol_degree_lem table) one two d
  pub same_heading : (table one two : List ℕ) → first (degree_rows table one two) ≡ none → P.heading_degree table one two ≡ gives 1000 ↔ (one ≡ two)
  pub handed_back : HandedBack P
  -- the match
  pub matches : (table pattern heading : List ℕ) (cut : ℕ) (spans sets : List ℕ) → Accepted table pattern heading cut spans sets
      → (p : Pattern) → WritesPattern (table_in table) pattern p → (h : Term) → WritesTerm (table_in table) heading h
      → MatchSays (table_in table) cut p h pattern (P.match table pattern heading cut spans sets)
  -- the match at cut 1000. The first sentence names no match: it says what it means that the program accepts a table, and would not hold of one that accepts
  -- a file in which two different symbols have degree 1000. (`made_richer` below too says what that means.)
  pub matchers_make_it : (table : List ℕ) → P.is_table_lem table ≡ gives aye → MatchersMakeIt table
  pub top_cut : (table pattern heading spans sets : List ℕ) → Accepted table pattern heading 1000 spans sets
      → (p : Pattern) → WritesPattern (table_in table) pattern p → (h : Term) → WritesTerm (table_in table) heading h
      → AtTopCut (table_in table) p h pattern heading (P.match table pattern heading 1000 spans sets)
  -- a richer table: which files hold one; one question, asked of two tables of which the second is richer; and with the same buffers, where it is enough
  -- that the second file is a table
  pub made_richer : (table₁ table₂ : List ℕ) → P.is_table_lem table₁ ≡ gives aye → P.is_table_lem table₂ ≡ gives aye → MadeRicher table₁ table₂
  pub richer : (table₁ table₂ pattern heading : List ℕ) (cut : ℕ) (spans₁ sets₁ spans₂ sets₂ : List ℕ) → Richer (table_in table₁) (table_in table₂)
      → Accepted table₁ pattern heading cut spans₁ sets₁ → Accepted table₂ pattern heading cut spans₂ sets₂
      → LosesNothing table₁ table₂ pattern heading cut (P.match table₁ pattern heading cut spans₁ sets₁) (P.match table₂ pattern heading cut spans₂ sets₂)
  pub stays_answered : (table₁ table₂ pattern heading : List ℕ) (cut : ℕ) (spans sets : List ℕ) → Richer (table_in table₁) (table_in table₂) → P.is_table_lem table₂ ≡ gives aye
      → (d : Degrees) → (P.match table₁ pattern heading cut spans sets).answer ≡ gives d → (e : Degrees) × ((P.match table₂ pattern heading cut spans sets).answer ≡ gives e)
  -- saved answers: what the converter leaves; and that a saved answer of a table whose symbols all had room, converted, is what the match itself leaves
  -- today in sets for as many positions
  pub widens : (words output : List ℕ) → Widens words output (P.widen words output)
  pub as_today : (table pattern heading : List ℕ) (cut : ℕ) (spans sets output : List ℕ) → (table_in table).size ≤ saved_room
      → (d : Degrees) → (P.match table pattern heading cut spans sets).answer ≡ gives d → (n : ℕ) → length sets ≡ set_words_lem * n → length sets ≤ length output
      → (P.widen (left_then (table_in table) cut (faces_in table pattern heading) n) output).output ≡ (P.match table pattern heading cut spans sets).sets ++ drop (length sets) output
  -- exchange records
  pub record_headings : RecordHeadings P
