-- What is said of tables: which files are tables, the degrees of their symbols, richer tables, reading back and writing. Statements; the proofs are in
-- proofs/Recognised, proofs/NotListed, proofs/Sound, proofs/Degrees, proofs/PairsKept, proofs/Back and proofs/RoundTrip.
use Rattle.std.specs.Prelude.{◌≡◌, ◌↔◌, ◌⊎◌, List, ◌++◌, false, ℕ, suc, ◌+◌, ◌*◌, ◌≤◌, ◌<◌, length, get_or, take, drop}
use Rattle.theory.specs.Least.{All}
use Rattle.theory.specs.Table.{Lawful, OnlyItself, Richer}
use Rattle.theory.specs.Pairs.{Pair, pair, is_pair}
use Rattle.meaning.specs.File.{number, symbol_count_lem, pair_count_lem, arities_offset, pairs_offset, total_field, total, arities_in, pairs_in, table_in}
use Rattle.meaning.specs.Refusals.{SoundFile}
use Rattle.meaning.specs.Calls.{Answer, refused, gives, Yes, written, later_output}

-- ---- which files are tables, said outright

-- Symbol a's arity, and the three numbers of pair k, where they stand in the file.
abbrev pub arity_byte : List ℕ → ℕ → ℕ
arity_byte file a = get_or file (10 + a) 0

abbrev pub pair_start : List ℕ → ℕ → ℕ
pair_start file k = 10 + symbol_count_lem file + 6 * k

abbrev pub lower_at : List ℕ → ℕ → ℕ
lower_at file k = number file (pair_start file k)

abbrev pub higher_at : List ℕ → ℕ → ℕ
higher_at file k = number file (pair_start file k + 2)

abbrev pub degree_at : List ℕ → ℕ → ℕ
degree_at file k = number file (pair_start file k + 4)

-- Pair k may be listed: two symbols of the table, the lower first, of equal arity, with a degree from 1 to 999.
pub record ListedWell (file : List ℕ) (k : ℕ) : Type 0 where
  pub lower_first : lower_at file k < higher_at file k
  pub in_table : higher_at file k < symbol_count_lem file
  pub equal_arities : arity_byte file (lower_at file k) ≡ arity_byte file (higher_at file k)
  pub above_zero : 1 ≤ degree_at file k
  pub at_most_top : degree_at file k ≤ 999

-- Pair k stands before pair j: its lower symbol is lower, or that is the same and its higher one is lower.
abbrev pub StandsBefore : List ℕ → ℕ → ℕ → Type 0
StandsBefore file k j = (lower_at file k < lower_at file j) ⊎ ((lower_at file k ≡ lower_at file j) × (higher_at file k < higher_at file j))

pub record TableFile (file : List ℕ) : Type 0 where
  pub whole_header : 10 ≤ length file
  pub some_symbol : 1 ≤ symbol_count_lem file
  pub few_symbols : symbol_count_lem file ≤ 512
  pub few_pairs_lem : pair_count_lem file ≤ 8192
  pub arities_follow : arities_offset file ≡ 10
  pub pairs_follow : pairs_offset file ≡ 10 + symbol_count_lem file
  pub total_is : total_field file ≡ 10 + symbol_count_lem file + 6 * pair_count_lem file
  pub length_is : length file ≡ total_field file
  pub arities : (a : ℕ) → a < symbol_count_lem file → arity_byte file a ≤ 8
  pub pairs : (k : ℕ) → k < pair_count_lem file → ListedWell file k
  pub rising : (k : ℕ) → suc k < pair_count_lem file → StandsBefore file k (suc k)

-- A file is not refused exactly if it is a table.
abbrev pub Recognised : Type 0
Recognised = (file : List ℕ) → SoundFile file ↔ TableFile file

-- It is refused by 4 at pair k, unless it is refused by 1 to 3, or at a pair before k.
abbrev pub RefusedThere : {A : Type 0} → ℕ → Answer A → Type 0
RefusedThere k answer = ((n place : ℕ) → answer ≡ refused n place → (3 < n) × (k ≤ place)) → answer ≡ refused 4 k

-- So it is with a pair that has a degree of 1000 or more, in a file that is read and in pairs that are to be written.
abbrev pub TopNotListed : List ℕ → Answer Yes → Type 0
TopNotListed file answer = (k : ℕ) → k < pair_count_lem file → 1000 ≤ degree_at file k → RefusedThere k answer

abbrev pub TopNotWritten : List Pair → Answer ℕ → Type 0
TopNotWritten pairs answer = (k l h d : ℕ) → k < length pairs → get_or pairs k (pair 0 0 0) ≡ pair l h d → 1000 ≤ d → RefusedThere k answer

-- ---- what a table that is not refused holds

-- It is lawful, with at most 512 symbols: what is known of degrees in general holds for its symbols. No two different ones have degree 1000.
pub record SoundTable (table : List ℕ) : Type 0 where
  pub lawful : Lawful (table_in table)
  pub only_itself : OnlyItself (table_in table)
  pub small : (table_in table).size ≤ 512

-- The answer for two symbol numbers: 1000 of a symbol with itself and of no other two, a listed pair's degree in either order, 0 of every other two
-- symbols. A number that is no symbol is refused at its place, and the first is told where neither is one.
pub record SymbolDegrees (table : List ℕ) (degree_of : ℕ → ℕ → Answer ℕ) : Type 0 where
  pub itself : (a : ℕ) → a < symbol_count_lem table → degree_of a a ≡ gives 1000
  pub whole : (a b : ℕ) → degree_of a b ≡ gives 1000 → a ≡ b
  pub listed : (k l h d : ℕ) → k < pair_count_lem table → get_or (pairs_in table) k (pair 0 0 0) ≡ pair l h d → (degree_of l h ≡ gives d) × (degree_of h l ≡ gives d)
  pub others : (a b : ℕ) → a < symbol_count_lem table → b < symbol_count_lem table → (a ≡ b → ⊥) → ((k l h d : ℕ) → k < pair_count_lem table → get_or (pairs_in table) k (pair 0 0 0) ≡ pair l h d → is_pair l h a b ≡ false)
      → degree_of a b ≡ gives 0
  pub first-outside : (a b : ℕ) → symbol_count_lem table ≤ a → degree_of a b ≡ refused 13 0
  pub second_outside : (a b : ℕ) → a < symbol_count_lem table → symbol_count_lem table ≤ b → degree_of a b ≡ refused 13 1

-- ---- how a table is made richer

-- Pair j of the second file is pair k of the first, with a degree that is not lower.
pub record KeptAs (table₁ table₂ : List ℕ) (k j : ℕ) : Type 0 where
  pub same_lower : lower_at table₁ k ≡ lower_at table₂ j
  pub same_higher : higher_at table₁ k ≡ higher_at table₂ j
  pub not_lower : degree_at table₁ k ≤ degree_at table₂ j

-- The second file has the arities of the first, and each pair of the first still stands in it. Others may stand there besides.
pub record PairsKept (table₁ table₂ : List ℕ) : Type 0 where
  pub as_many : symbol_count_lem table₁ ≡ symbol_count_lem table₂
  pub same_arities : (a : ℕ) → a < symbol_count_lem table₁ → arity_byte table₁ a ≡ arity_byte table₂ a
  pub kept : (k : ℕ) → k < pair_count_lem table₁ → (j : ℕ) × (j < pair_count_lem table₂) × KeptAs table₁ table₂ k j

-- So it is made, and in no other way.
abbrev pub MadeRicher : List ℕ → List ℕ → Type 0
MadeRicher table₁ table₂ = Richer (table_in table₁) (table_in table₂) ↔ PairsKept table₁ table₂

-- ---- reading back

-- Reading back gives the bytes of the file at the symbol, at the pair; past the last one there is nothing to read.
pub record ReadBack (table : List ℕ) (arity_of_lem : ℕ → Answer ℕ) (pair_of : ℕ → Answer Pair) : Type 0 where
  pub arity : (a : ℕ) → a < symbol_count_lem table → arity_of_lem a ≡ gives (arity_byte table a)
  pub no_symbol : (a : ℕ) → symbol_count_lem table ≤ a → arity_of_lem a ≡ refused 14 0
  pub pair : (k : ℕ) → k < pair_count_lem table → pair_of k ≡ gives (pair (lower_at table k) (higher_at table k) (degree_at table k))
  pub no_pair : (k : ℕ) → pair_count_lem table ≤ k → pair_of k ≡ refused 14 0

-- ---- writing

abbrev pub Bytes : List ℕ → Type 0
Bytes = All (λ b. b < 256)

-- What the writer gives: its answer, and what the output holds later.
pub record Wrote : Type 0 where
  pub answer : Answer ℕ
  pub output : List ℕ

abbrev pub write_call : List ℕ → List Pair → List ℕ → Wrote
write_call arities pairs output = record { answer = written arities pairs output; output = later_output arities pairs output }

-- What is demanded of a writer: a refusal leaves the output; else the front of the output, as long as the number returned, is a table that reads
-- back to the same arities and pairs, and the rest of the output stays.
pub record Writes (arities : List ℕ) (pairs : List Pair) (output : List ℕ) (r : Wrote) : Type 0 where
  pub refusal_leaves : (n place : ℕ) → r.answer ≡ refused n place → r.output ≡ output
  pub returns : (n : ℕ) → r.answer ≡ gives n → n ≡ total (length arities) (length pairs)
  pub is_bytes : (n : ℕ) → r.answer ≡ gives n → Bytes (take n r.output)
  pub is_table_lem-is : (n : ℕ) → r.answer ≡ gives n → SoundFile (take n r.output)
  pub same_arities : (n : ℕ) → r.answer ≡ gives n → arities_in (take n r.output) ≡ arities
  pub same_pairs : (n : ℕ) → r.answer ≡ gives n → pairs_in (take n r.output) ≡ pairs
  pub rest_stays : (n : ℕ) → r.answer ≡ gives n → drop n r.output ≡ drop n output

-- What was read from a table is taken by the writer, given room, and written as the table's own bytes.
pub record WritesAgain (table output : List ℕ) (r : Wrote) : Type 0 where
  pub taken : r.answer ≡ gives (length table)
  pub same_bytes : r.output ≡ table ++ drop (length table) output

pub record RoundTrip (write : List ℕ → List Pair → List ℕ → Wrote) : Type 0 where
  pub read_written : (arities : List ℕ) (pairs : List Pair) (output : List ℕ) → Writes arities pairs output (write arities pairs output)
  pub written_read : (table output : List ℕ) → Bytes table → SoundFile table → length table ≤ length output
      → WritesAgain table output (write (arities_in table) (pairs_in table) output)
