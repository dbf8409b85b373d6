-- No statement rests on a hypothesis that cannot be met: here each is met, by table T of the examples and what the listing asks of it, and by
-- computing.
use mathlib.Core.Path.{◌≡◌, refl}
use mathlib.Core.List.{List, [], ◌∷◌, ◌++◌}
use mathlib.Core.Bool.{true, false}
use mathlib.Core.Option.{none, some as just}
use Prim.Native.Nat.{ℕ, ◌+◌, ◌*◌, ◌≤◌, ◌<◌}
use native.Mathlib.Nat.{not-suc-le-zero}
use native.Mathlib.Omega.{arith}
use lib.Dec.{lit<, lit≤}
use lib.ListN.{length, get_or, take}
use Rattle.theory.specs.Tree.{sym, ∅ₚ, stands}
use Rattle.theory.specs.Table.{Richer, degree}
use Rattle.theory.specs.Pairs.{pair, is_pair}
use Rattle.theory.specs.Read.{walk, several}
use Rattle.theory.specs.Decode.{pattern_of, term_of, parse, parse_row}
use Rattle.meaning.specs.Limits.{set_words_lem, variable_count, span_width}
use Rattle.meaning.specs.File.{symbol_count_lem, pair_count_lem, arities_in, pairs_in, table_in, file_of}
use Rattle.meaning.specs.Refusals.{first, Given, row1_short, row1_offsets, row2, row3, row4, row5, row6, row7, row8, row8-output, row9, row10, table_rows, SoundFile}
use Rattle.meaning.specs.Packing.{packed_count, packed_spans}
use Rattle.meaning.specs.Calls.{Answer, refused, gives, aye, is_table_lem, degree_rows, heading_degree, subterm_rows, nearer_rows, degrees, zeros, faces_in, input_rows, search_rows, match_rows, matched, later_spans, writer_rows, written, later_output}
use Rattle.meaning.specs.Demands.{WritesTerm, WritesPattern, Accepted}
use Rattle.meaning.specs.Tables.{degree_at, Bytes}
use Rattle.meaning.specs.Matching.{InSpan}
use Rattle.meaning.specs.TopCut.{NoVariable}
use Rattle.meaning.proofs.First.{first_given}
use Rattle.meaning.proofs.Bits.{get_or_zeros}
use Rattle.meaning.proofs.RoundTrip.{round_trip}
use Rattle.meaning.proofs.Examples.{T, arities, pairs, p, h}
use Rattle.meaning.proofs.Wrong.{P, H, writes-P, writes-H}
use Rattle.meaning.specs.Saved.{saved_room, left_then}
use Rattle.marc.specs.Frame.{digits_at, value_at, fields_in, frame_rows}
use Rattle.marc.specs.Subfields.{text_of, subfield}
use Rattle.marc.specs.Known.{known_in, number_in, row19}
use Rattle.marc.specs.Heading.{first_with, field100, name_in, dates_in, row20, row21, row22, heading_rows, heading_of, headed, later_nodes}
use Rattle.marc.specs.Plain.{record_of}
use Rattle.demands.proofs.WrongRicher.{apart, near, added}
use Rattle.demands.proofs.Lent.{no_spans, no_sets}
use Rattle.demands.proofs.RecordExample.{text, ends, numbers, bytes as dated, undated}

-- what the listing asks, at a cut, of buffers that have just the room
abbrev asked : ℕ → Type 0
asked cut = Accepted T p h cut no_spans (no_sets 5)

-- Demand 1: a row that refuses, with none before it
pub met1 : Given (table_rows []) 1 0 × Given (subterm_rows [] []) 1 0 × Given (nearer_rows [] [] [] []) 1 0
unfolding subterm_rows nearer_rows table_rows row1_short row1_offsets row2 row3 row4 row6 row7 table_in arities_in pairs_in walk several
met1 = (first_given (table_rows []) 1 0 refl, first_given (subterm_rows [] []) 1 0 refl, first_given (nearer_rows [] [] [] []) 1 0 refl)

-- Demand 2: two headings and a match that are not refused; at 701 there is no match, at 500 there is one
pub met2 : (first (degree_rows T (1 ∷ 5 ∷ []) (4 ∷ 7 ∷ [])) ≡ none) × asked 500 × asked 701
    × (matched T p h 701 no_spans (no_sets 5) ≡ refused 10 0) × (matched T p h 500 no_spans (no_sets 5) ≡ gives (degrees 500 700))
unfolding
    degree_rows matched match_rows input_rows search_rows faces_in packed_count table_rows row1_short row1_offsets row2 row3 row4 row5 row6 row7 row8 row9 row10 table_in arities_in pairs_in
    pattern_of term_of parse parse_row walk several
met2 = (refl, refl, refl, refl, refl)

-- Demand 3: two cuts, with neither call refused for its input or its room; the second answers, and the first's highest degree reaches it
pub met3 : (500 ≤ 600) × asked 500 × asked 600
    × (matched T p h 600 no_spans (no_sets 5) ≡ gives (degrees 600 700)) × (matched T p h 500 no_spans (no_sets 5) ≡ gives (degrees 500 700)) × (600 ≤ 700)
unfolding
    matched match_rows input_rows search_rows faces_in packed_count table_rows row1_short row1_offsets row2 row3 row4 row5 row6 row7 row8 row9 row10 table_in arities_in pairs_in
    pattern_of term_of parse parse_row walk several
met3 = (lit≤ tt, refl, refl, refl, refl, lit≤ tt)

-- T is what the writer writes, and that are bytes
bytes : Bytes T
unfolding written later_output writer_rows row2 row3 row4 row8-output file_of
bytes = (round_trip.read_written arities pairs (zeros 66)).is_bytes 66 refl

-- Further, tables: a table with symbols and pairs, of bytes, and a number that is no symbol; and what the writer takes
pub met_tables : SoundFile T × (0 < symbol_count_lem T) × (symbol_count_lem T ≤ 8) × (0 < pair_count_lem T) × Bytes T × (length T ≤ length (zeros 66)) × (written arities pairs (zeros 66) ≡ gives 66)
unfolding table_rows row1_short row1_offsets row2 row3 row4 row8-output arities_in pairs_in written writer_rows
met_tables = (refl, lit< tt, lit≤ tt, lit< tt, bytes, lit≤ tt, refl)

-- .. and two symbols that are not listed, in a table of two symbols and no pairs
abbrev pairless : List ℕ
pairless = 2 ∷ 0 ∷ 0 ∷ 0 ∷ 10 ∷ 0 ∷ 12 ∷ 0 ∷ 12 ∷ 0 ∷ 0 ∷ 0 ∷ []

pub met_unlisted : SoundFile pairless × (0 < symbol_count_lem pairless) × (1 < symbol_count_lem pairless)
    × ((k l h d : ℕ) → k < pair_count_lem pairless → get_or (pairs_in pairless) k (pair 0 0 0) ≡ pair l h d → is_pair l h 0 1 ≡ false)
unfolding table_rows row1_short row1_offsets row2 row3 row4 arities_in pairs_in
met_unlisted = (refl, lit< tt, lit< tt, λ k l h d m e. absurd (not-suc-le-zero m))

-- .. and a file and pairs that are refused for nothing but a degree
abbrev topped : List ℕ
topped = file_of (zeros 3) (pair 0 1 999 ∷ pair 1 2 1000 ∷ [])

pub met_topped : (1 < pair_count_lem topped) × (1000 ≤ degree_at topped 1) × ((n place : ℕ) → is_table_lem topped ≡ refused n place → (3 < n) × (1 ≤ place))
    × ((n place : ℕ) → written arities (pair 5 6 999 ∷ pair 5 7 1000 ∷ []) (zeros 66) ≡ refused n place → (3 < n) × (1 ≤ place))
unfolding is_table_lem table_rows row1_short row1_offsets row2 row3 row4 row8-output arities_in pairs_in file_of written writer_rows
met_topped = (lit< tt, lit≤ tt, at_one, at_one)
  where
    at_one : {A : Type 0} (n place : ℕ) → ◌≡◌ {A = Answer A} (refused 4 1) (refused n place) → (3 < n) × (1 ≤ place)
    at_one n place e = let q : 4 ≡ n = cc in let r : 1 ≡ place = cc in (omega arith, omega arith)

-- Further, headings: two that have a degree, two of which one is longer, a subterm, and two candidates of which one is nearer
pub met_headings : (heading_degree T (1 ∷ 5 ∷ []) (4 ∷ 7 ∷ []) ≡ gives 700) × (heading_degree T (1 ∷ 5 ∷ []) (5 ∷ []) ≡ gives 0) × (first (subterm_rows T h) ≡ none) × (1 < length h)
    × (first (nearer_rows T (5 ∷ []) (6 ∷ []) (7 ∷ [])) ≡ none)
    × (heading_degree T (5 ∷ []) (6 ∷ []) ≡ gives 500) × (heading_degree T (5 ∷ []) (7 ∷ []) ≡ gives 700)
unfolding
    heading_degree degree_rows subterm_rows nearer_rows table_rows row1_short row1_offsets row2 row3 row4 row6 row7 table_in arities_in pairs_in pattern_of term_of parse parse_row walk several degree
met_headings = (refl, refl, refl, lit< tt, refl, refl, refl)

-- .. and lists that are no terms of a table that is accepted: a variable in the first heading, an argument that is missing in the second
pub met_no_terms : (is_table_lem T ≡ gives aye) × (heading_degree T (32768 ∷ []) (5 ∷ []) ≡ refused 6 0) × (heading_degree T (5 ∷ []) (1 ∷ []) ≡ refused 7 1)
    × (matched T (1 ∷ []) h 600 no_spans (no_sets 5) ≡ refused 6 1) × (matched T p (32768 ∷ []) 600 no_spans (no_sets 5) ≡ refused 7 0)
unfolding
    is_table_lem heading_degree degree_rows matched match_rows input_rows search_rows faces_in packed_count table_rows row1_short row1_offsets row2 row3 row4 row5 row6 row7 row8 row9 row10 table_in arities_in pairs_in
    pattern_of term_of parse parse_row walk several
met_no_terms = (refl, refl, refl, refl, refl)

-- Further, the match: the trees that the two lists write, a variable that stands in the pattern and one that does not; and a clash
pub met_match : WritesPattern (table_in T) p P × WritesTerm (table_in T) h H × (stands 0 P ≡ true) × (stands 31 P ≡ false) × (31 < variable_count)
    × (matched T (1 ∷ 32768 ∷ []) (2 ∷ 6 ∷ []) 501 no_spans (no_sets 2) ≡ refused 9 0)
unfolding
    matched match_rows input_rows search_rows faces_in packed_count table_rows row1_short row1_offsets row2 row3 row4 row5 row6 row7 row8 row9 row10 table_in arities_in pairs_in
    pattern_of term_of parse parse_row walk several
met_match = (writes-P, writes-H, refl, refl, lit< tt, refl)

-- .. and a pattern without variables, of which no position is any variable's
pub met_ground : ((v : ℕ) → stands v (sym 5 ∅ₚ) ≡ false) × (matched T (5 ∷ []) (7 ∷ []) 700 no_spans (no_sets 1) ≡ gives (degrees 700 700))
    × ((v position : ℕ) → InSpan (later_spans T (5 ∷ []) (7 ∷ []) 700 no_spans (no_sets 1)) v position → ⊥)
unfolding
    matched later_spans match_rows input_rows search_rows faces_in packed_count packed_spans table_rows row1_short row1_offsets row2 row3 row4 row5 row6 row7 row8 row9 row10 table_in arities_in
    pairs_in pattern_of term_of parse parse_row walk several
met_ground = ((λ v. refl), refl, λ v position i. omega (arith, i.1, get_or_zeros (span_width * variable_count) (span_width * v), get_or_zeros (span_width * variable_count) (span_width * v + 1)))

-- .. and at cut 1000 a pattern without variables with its equal, and with another heading; and a match with a variable that is answered
pub met_top : NoVariable (5 ∷ []) × Accepted T (5 ∷ []) (5 ∷ []) 1000 no_spans (no_sets 1) × Accepted T (5 ∷ []) (7 ∷ []) 1000 no_spans (no_sets 1)
    × (matched T (1 ∷ 32768 ∷ []) (1 ∷ 5 ∷ []) 1000 no_spans (no_sets 2) ≡ gives (degrees 1000 1000))
unfolding
    matched match_rows input_rows search_rows faces_in packed_count table_rows row1_short row1_offsets row2 row3 row4 row5 row6 row7 row8 row9 row10 table_in arities_in pairs_in
    pattern_of term_of parse parse_row walk several
met_top = ((lit< tt, tt), refl, refl, refl)

-- .. and two tables, the second richer, asked the same
pub met_richer : Richer (table_in apart) (table_in (near 5)) × (is_table_lem apart ≡ gives aye) × (is_table_lem (near 5) ≡ gives aye)
    × Accepted apart (32768 ∷ []) (0 ∷ []) 1 no_spans (no_sets 1) × Accepted (near 5) (32768 ∷ []) (0 ∷ []) 1 no_spans (no_sets 1)
unfolding is_table_lem input_rows table_rows row1_short row1_offsets row2 row3 row4 row5 row6 row7 row8 table_in arities_in pairs_in walk several
met_richer = (added, refl, refl, refl, refl)

-- .. and a saved answer: the listing's at 600, in sets for its five nodes, as they were left when a set had four words
pub met_saved : ((table_in T).size ≤ saved_room) × (matched T p h 600 no_spans (no_sets 5) ≡ gives (degrees 600 700)) × (length (no_sets 5) ≡ set_words_lem * 5)
    × (left_then (table_in T) 600 (faces_in T p h) 5 ≡ (24 ∷ 0 ∷ 0 ∷ 0 ∷ 128 ∷ []) ++ zeros 15)
unfolding
    left_then matched match_rows input_rows search_rows faces_in packed_count table_rows row1_short row1_offsets row2 row3 row4 row5 row6 row7 row8 row9 row10 table_in arities_in pairs_in
    pattern_of term_of parse parse_row walk several
met_saved = (omega arith, refl, refl, refl)

-- Further, exchange records: one with dates and one without, read by one list, and a table that lists no pair of their last nodes; and a list with an entry
-- that may not be listed. (That written records can be as is supposed is in `RecordExample`.)
abbrev unpaired : List ℕ
unpaired = file_of (2 ∷ 0 ∷ 0 ∷ 0 ∷ 0 ∷ []) []

pub met_records : let ks = known_in text ends numbers in (headed dated ks 0 4 (zeros 3) ≡ gives aye) × (headed undated ks 0 4 (zeros 3) ≡ gives aye)
    × (dates_in dated ≡ just (49 ∷ [])) × (dates_in undated ≡ none) × (pair_count_lem unpaired ≡ 0)
    × (heading_degree unpaired (take 3 (later_nodes undated ks 0 4 (zeros 3))) (take 3 (later_nodes dated ks 0 4 (zeros 3))) ≡ gives 0)
    × (headed [] (known_in [] (0 ∷ 0 ∷ []) numbers) 0 4 (zeros 3) ≡ refused 19 1)
unfolding
    headed later_nodes heading_of heading_rows row19 row8-output frame_rows row20 row21 row22 record_of digits_at value_at fields_in first_with field100 name_in dates_in subfield text_of known_in number_in file_of heading_degree degree_rows table_rows row1_short row1_offsets row2 row3 row4
    row6 row7 table_in arities_in pairs_in pattern_of term_of parse parse_row walk several degree
met_records = (refl, refl, refl, refl, refl, refl, refl)
