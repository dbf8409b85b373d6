-- The promises can be kept, all of them, for everything that is lent: whatever row refuses a call, the refusal has a case that says so, and else the call's
-- own answer has a case for what the meaning gives.
use mathlib.Core.Path.{◌≡◌, refl}
use mathlib.Core.List.{List}
use mathlib.Core.Bool.{Bool, true, false, not, ◌||◌}
use Prim.Native.Nat.{ℕ, ◌*◌, ◌%◌}
use lib.Dec.{ltb, eqb}
use lib.ListN.{length}
use Rattle.std.specs.Prelude.{Result, Ok}
use Rattle.theory.specs.Least.{All}
use Rattle.theory.specs.Table.{Table}
use Rattle.theory.specs.Pairs.{Pair, pair}
use Rattle.theory.proofs.Lemmas.{all_append}
use Rattle.meaning.specs.Limits.{most_symbols, most_pairs, span_width, variable_count, set_words_lem}
use Rattle.meaning.specs.File.{symbol_count_lem, pair_count_lem, table_in, pairs_of}
use Rattle.meaning.specs.Refusals.{outside, misplaced, row1_short, row1_offsets, row2, row3, row4, row5, row6, row7, row8, row8-output, row9, row10, row13, row14, table_rows}
use Rattle.meaning.specs.Calls.{gives, Yes, aye, is_table_lem, symbol_rows, symbol_degree_lem, degree_rows, heading_degree, Degrees, degrees, input_rows, search_rows, match_rows, matched, later_spans, later_sets, writer_rows, written, later_output, back_rows, arity_back, pair_back}
use Rattle.meaning.specs.Saved.{saved_words, row8-words, widen_rows, widened_count, later_words}
use Rattle.refusal.specs.Told.{told}
use Rattle.refusal.specs.declared.Degrees.{Degrees as Found}
use Rattle.refusal.specs.declared.Refusal.{Refusal}
use Rattle.refusal.specs.declared.Refusal.TheVariants.{Layout, Counts, Arity as HighArity, Pair as BadPair, Cut, Pattern, Heading, Room, Clash, NoForm, NoSymbol, Absent}
use Rattle.writer.specs.Said.{said}
use Rattle.refusal.specs.Outcomes.{said_match}
use Rattle.tables.specs.Tables.{said_table, said_degree, said_arity, said_pair}
use Rattle.table.specs.declared.read.Pair.{Pair as Record}
use Rattle.records.specs.Records.{listed}
use Rattle.marc.specs.Known.{known_in}
use Rattle.marc.specs.Heading.{later_nodes}
use Rattle.demands.specs.Public.{Calls, Kept, record_of}
use Rattle.demands.proofs.Handing.{handed, handed_well}
use Rattle.demands.proofs.Sayable.{Sayable, zero-said, placed_said, sayable}
use Rattle.demands.proofs.PossibleHeading.{record_met}

-- ---- the rows

counts_said : (s p : ℕ) → Sayable told (row2 s p)
unfolding row2
counts_said s p = zero-said told 2 (outside 1 most_symbols s || outside 0 most_pairs p) Counts refl

room_said : (n : ℕ) (output : List ℕ) → Sayable told (row8-output n output)
unfolding row8-output
room_said n output = zero-said told 8 (ltb (length output) n) Room refl

table_said : (table : List ℕ) → All (Sayable told) (table_rows table)
unfolding table_rows row1_short row1_offsets row3 row4
table_said table = (
  zero-said told 1 (ltb (length table) 10) Layout refl,
  (counts_said _ _, (zero-said told 1 (misplaced table) Layout refl, (placed_said told 3 _ HighArity (λ i. refl), (placed_said told 4 _ BadPair (λ i. refl), tt)))),
)

six : (T : Table) (vars : Bool) (list : List ℕ) → Sayable told (row6 T vars list)
unfolding row6
six T vars list = placed_said told 6 _ Pattern (λ i. refl)

seven : (T : Table) (list : List ℕ) → Sayable told (row7 T list)
unfolding row7
seven T list = placed_said told 7 _ Heading (λ i. refl)

-- ---- call by call

table_met : (table : List ℕ) → (r : Result (Unit {0}) Refusal) × (said_table r ≡ is_table_lem table)
unfolding is_table_lem table_rows
table_met table = sayable told said_table (λ a. tt) yes_said (λ why. refl) (table_rows table) (table_said table) aye
  where
    yes_said : (a : Yes) → said_table (Ok tt) ≡ gives a
    yes_said aye = refl

symbol_met : (table : List ℕ) (a b : ℕ) → (r : Result ℕ Refusal) × (said_degree r ≡ symbol_degree_lem table a b)
unfolding symbol_degree_lem symbol_rows row13
symbol_met table a b =
    sayable told said_degree (λ n. n) (λ n. refl) (λ why. refl) (symbol_rows table a b) (all_append (Sayable told) (table_rows table) _ (table_said table) (placed_said told 13 _ NoSymbol (λ i. refl), tt)) ((table_in table).deg a b)

heading_met : (table one two : List ℕ) → (r : Result ℕ Refusal) × (said_degree r ≡ heading_degree table one two)
unfolding heading_degree degree_rows
heading_met table one two =
    sayable told said_degree (λ n. n) (λ n. refl) (λ why. refl) (degree_rows table one two)
    (all_append (Sayable told) (table_rows table) _ (table_said table) (six (table_in table) false one, (seven (table_in table) two, tt))) _

input_said : (table pattern heading : List ℕ) (cut : ℕ) (spans sets : List ℕ) → All (Sayable told) (input_rows table pattern heading cut spans sets)
unfolding input_rows row5 row8
input_said table pattern heading cut spans sets =
    all_append (Sayable told) (table_rows table) _ (table_said table) (
      zero-said told 5 (outside 1 1000 cut) Cut refl,
      (
        six (table_in table) true pattern,
        (
          seven (table_in table) heading,
          (zero-said told 8 (ltb (length spans) (span_width * variable_count) || ltb (length sets) (set_words_lem * length heading)) Room refl, tt),
        ),
      ),
    )

search_said : (table pattern heading : List ℕ) (cut : ℕ) → All (Sayable told) (search_rows table pattern heading cut)
unfolding search_rows row9 row10
search_said table pattern heading cut = (placed_said told 9 _ Clash (λ i. refl), (placed_said told 10 _ NoForm (λ i. refl), tt))

match_met : (table pattern heading : List ℕ) (cut : ℕ) (spans sets : List ℕ) → (r : Result Found Refusal) × (said_match r ≡ matched table pattern heading cut spans sets)
unfolding matched match_rows
match_met table pattern heading cut spans sets =
    sayable told said_match outcome_for outcome_said (λ why. refl) (match_rows table pattern heading cut spans sets)
    (all_append (Sayable told) (input_rows table pattern heading cut spans sets) _ (input_said table pattern heading cut spans sets) (search_said table pattern heading cut)) _
  where
    outcome_for : Degrees → Found
    outcome_for (degrees low high) = record { lowest = low; highest = high }

    outcome_said : (d : Degrees) → said_match (Ok (outcome_for d)) ≡ gives d
    outcome_said (degrees low high) = refl

writer_met : (arities : List ℕ) (pairs : List Pair) (output : List ℕ) → (r : Result ℕ Refusal) × (said r ≡ written arities pairs output)
unfolding written writer_rows row3 row4
writer_met arities pairs output =
    sayable told said (λ n. n) (λ n. refl) (λ why. refl) (writer_rows arities pairs output)
    (counts_said _ _, (placed_said told 3 _ HighArity (λ i. refl), (placed_said told 4 _ BadPair (λ i. refl), (room_said _ output, tt)))) _

back_said : (table : List ℕ) (index count : ℕ) → All (Sayable told) (back_rows table index count)
unfolding back_rows row14
back_said table index count = all_append (Sayable told) (table_rows table) _ (table_said table) (zero-said told 14 (not (ltb index count)) Absent refl, tt)

arity_met : (table : List ℕ) (a : ℕ) → (r : Result ℕ Refusal) × (said_arity r ≡ arity_back table a)
unfolding arity_back
arity_met table a = sayable told said_arity (λ n. n) (λ n. refl) (λ why. refl) (back_rows table a (symbol_count_lem table)) (back_said table a (symbol_count_lem table)) _

pair_met : (table : List ℕ) (k : ℕ) → (r : Result Record Refusal) × (said_pair r ≡ pair_back table k)
unfolding pair_back
pair_met table k = sayable told said_pair record_of record_said (λ why. refl) (back_rows table k (pair_count_lem table)) (back_said table k (pair_count_lem table)) _
  where
    record_said : (p : Pair) → said_pair (Ok (record_of p)) ≡ gives p
    record_said (pair l h d) = refl

widen_met : (words output : List ℕ) → (r : Result ℕ Refusal) × (said r ≡ widened_count words output)
unfolding widened_count widen_rows row8-words
widen_met words output =
    sayable told said (λ n. n) (λ n. refl) (λ why. refl) (widen_rows words output)
    (zero-said told 8 (not (eqb (length words % saved_words) 0)) Room refl, (room_said _ output, tt)) _

-- results that are all allowed
pub some_calls : Calls
some_calls =
    record {
      is_table_lem = λ table. (table_met table).0;
      symbol_degree_lem = λ table a b. (symbol_met table a b).0;
      heading_degree = λ table one two. (heading_met table one two).0;
      subterm = handed.subterm;
      nearer = handed.nearer;
      match = λ table pattern heading cut spans sets.
          record {
            outcome = (match_met table pattern heading cut spans sets).0;
            spans = later_spans table pattern heading cut spans sets;
            sets = later_sets table pattern heading cut spans sets;
          };
      write_records_lem = λ arities records output.
          record { writing = (writer_met arities (listed records) output).0; output = later_output arities (listed records) output };
      write_table_lem = λ arities numbers output.
          record { writing = (writer_met arities (pairs_of numbers) output).0; output = later_output arities (pairs_of numbers) output };
      arity_of_lem = λ table a. (arity_met table a).0;
      pair_of = λ table k. (pair_met table k).0;
      widen = λ words output. record { writing = (widen_met words output).0; output = later_words words output };
      marc_heading = λ bytes text ends numbers heading absent nodes.
          let ks = known_in text ends numbers in record { headed = (record_met bytes ks heading absent nodes).0; nodes = later_nodes bytes ks heading absent nodes };
    }

-- THEOREM: so what `users_have` supposes can be met
pub kept : Kept some_calls
unfolding some_calls
kept =
    record {
      is_table_lem-is = λ table. (table_met table).1;
      symbol_degree_lem-is = λ table a b. (symbol_met table a b).1;
      heading_degree_lem = λ table one two. (heading_met table one two).1;
      subterm = handed_well.subterm;
      nearer = handed_well.nearer;
      match = λ table pattern heading cut spans sets.
          record { answers = (match_met table pattern heading cut spans sets).1; spans_later = refl; sets_later = refl };
      write_records_lem-is = λ arities records output. record { answers = (writer_met arities (listed records) output).1; leaves = refl };
      write_table_lem-is = λ arities numbers output. record { answers = (writer_met arities (pairs_of numbers) output).1; leaves = refl };
      arity_of_lem-is = λ table a. (arity_met table a).1;
      pair_of_lem = λ table k. (pair_met table k).1;
      widen = λ words output. record { answers = (widen_met words output).1; leaves = refl };
      marc_heading_lem = λ bytes text ends numbers heading absent nodes. record { answers = (record_met bytes (known_in text ends numbers) heading absent nodes).1; leaves = refl };
    }
