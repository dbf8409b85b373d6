-- The demands of what users of C run: what the exports' promises allow, read as the header says, is a program that keeps its promises, since each answer
-- can be read from its code and from what the pointers have; and a refused call leaves what the promises fix for a refusal.
use mathlib.Core.Path.{◌≡◌, refl, sym as inv, ap, ap₂, subst, ◌∙◌}
use mathlib.Core.List.{List}
use mathlib.Core.Bool.{Bool, true, false, cond}
use Prim.Native.Nat.{ℕ, ◌≤◌}
use lib.Dec.{leb}
use lib.ListN.{length}
use borrow.Author.Tests.{leb-true}
use Rattle.theory.specs.Pairs.{Pair, pair}
use Rattle.meaning.specs.Calls.{Answer, refused, gives, Yes, aye, is_table_lem, symbol_degree_lem, heading_degree, Degrees, degrees, lowest_in, highest_in, matched, match_call, later_spans, later_sets, written, later_output, arity_back, pair_back, subterm, nearer}
use Rattle.meaning.specs.Tables.{write_call}
use Rattle.meaning.specs.Saved.{widen_call, widened_count, later_words}
use Rattle.meaning.proofs.Parts.{nearest as meant-nearest}
use Rattle.records.specs.Records.{listed}
use Rattle.headings.specs.Terms.{Nodes, Subterm, Nearer}
use Rattle.marc.specs.Known.{known_in}
use Rattle.marc.specs.Heading.{heading_call}
use Rattle.capi.specs.Answers.{coded, later, later_number}
use Rattle.capi.specs.Tables.{lower_of, higher_of, degree_of}
use Rattle.capi.specs.Terms.{count_of, chosen}
use Rattle.capi.specs.Marc.{wide_coded}
use Rattle.demands.specs.Program.{Promise}
use Rattle.demands.specs.Public.{records_of}
use Rattle.demands.specs.ForC.{Cell, CNumber, CCalls, CKept, most_strings, answer_of, subterm_of, nearer_of, heading_of, program_of_c, InRange, Untouched, RefusedLeaves}
use Rattle.demands.specs.Demand1.{Demand1}
use Rattle.demands.specs.Demand2.{Demand2}
use Rattle.demands.specs.Demand3.{Demand3}
use Rattle.demands.specs.Further.{Further}
use Rattle.demands.proofs.Keeps.{keeps}
use Rattle.demands.proofs.Public.{records_list}
use Rattle.demands.proofs.Decoded.{Decodes, table_decodes, symbols_decode, headings_decode, match_decodes, writer_decodes, arity_decodes, pair_decodes, widen_decodes, record_decodes, subterm_decodes, subterm_inside, nearer_decodes, chosen_few, none-chosen}

-- a code and a number are read as the answer
number_read : (c : Cell) {answer : Answer ℕ} {code : ℕ} → Decodes answer → code ≡ coded answer → c.after ≡ later_number answer c.before → answer_of code c.after ≡ answer
number_read c decodes answers leaves = ap₂ answer_of answers leaves ∙ decodes (λ x. later_number x c.before) (λ n. refl)

-- a refusal leaves a number as it was
untouched : {A : Type 0} (field : A → ℕ) (c : Cell) {answer : Answer A} {n place : ℕ} → answer ≡ refused n place → c.after ≡ later field answer c.before → Untouched c
untouched field c e leaves = leaves ∙ ap (λ x. later field x c.before) e

module _ (C : CCalls) (k : CKept C) where
  tables : (table : List ℕ) → (program_of_c C).is_table_lem table ≡ is_table_lem table
  tables table = ap (λ c. answer_of c aye) (k.table table) ∙ table_decodes table (λ x. aye) only
    where
      only : (a : Yes) → aye ≡ a
      only aye = refl

  symbols : (table : List ℕ) (a b : ℕ) → (program_of_c C).symbol_degree_lem table a b ≡ symbol_degree_lem table a b
  symbols table a b = let p = k.symbol_degree_lem-is table a b in number_read (C.symbol_degree_lem table a b).number (symbols_decode table a b) p.answers p.leaves

  headings : (table one two : List ℕ) → (program_of_c C).heading_degree table one two ≡ heading_degree table one two
  headings table one two = let p = k.heading_degree_lem table one two in number_read (C.heading_degree table one two).number (headings_decode table one two) p.answers p.leaves

  subterms : (table : List ℕ) (term : Nodes) (i : ℕ) → Subterm table term i ((program_of_c C).subterm table term i)
  subterms table term i = subst (λ n. Subterm table term i (subterm_of term i n)) (inv (k.subterm table term.now i)) (subterm_decodes table term i)

  nearest : (table heading : List ℕ) (one two : Nodes) → Nearer table heading one two ((program_of_c C).nearer table heading one two)
  nearest table heading one two =
      subst (λ n. Nearer table heading one two (nearer_of one two n)) (inv (k.nearer table heading one.now two.now)) (nearer_decodes table heading one two)

  module _ (table pattern heading : List ℕ) (cut : ℕ) (spans sets : List ℕ) where
    match_answers : ((program_of_c C).match table pattern heading cut spans sets).answer ≡ matched table pattern heading cut spans sets
    match_answers =
        let p = k.match table pattern heading cut spans sets in
        ap₂ answer_of p.answers (ap₂ degrees p.lowest-later p.highest-later)
        ∙ match_decodes table pattern heading cut spans sets (λ x. degrees (lowest_in x) (highest_in x)) both
      where
        both : (d : Degrees) → degrees (lowest_in (gives d)) (highest_in (gives d)) ≡ d
        both (degrees low high) = refl

    matches : (program_of_c C).match table pattern heading cut spans sets ≡ match_call table pattern heading cut spans sets
    matches =
        let p = k.match table pattern heading cut spans sets in
        λ i. record { answer = match_answers i; spans = p.spans_later i; sets = p.sets_later i }

  module _ (arities : List ℕ) (pairs : List Pair) (output : List ℕ) where
    writer_answers : ((program_of_c C).write_table_lem arities pairs output).answer ≡ written arities (listed (records_of pairs)) output
    writer_answers =
        let p = k.write_table_lem-is arities (records_of pairs) output in
        number_read (C.write_table_lem arities (records_of pairs) output).count (writer_decodes arities (records_of pairs) output) p.answers p.total-later

    writes : (program_of_c C).write_table_lem arities pairs output ≡ write_call arities pairs output
    writes =
        let e : listed (records_of pairs) ≡ pairs = records_list pairs in
        ap₂ (λ a l. record { answer = a; output = l }) writer_answers (k.write_table_lem-is arities (records_of pairs) output).output-later ∙ rw e

  arities_back : (table : List ℕ) (symbol : ℕ) → (program_of_c C).arity_of_lem table symbol ≡ arity_back table symbol
  arities_back table symbol = let p = k.arity table symbol in number_read (C.arity table symbol).number (arity_decodes table symbol) p.answers p.leaves

  pairs_back : (table : List ℕ) (index : ℕ) → (program_of_c C).pair_of table index ≡ pair_back table index
  pairs_back table index =
      let p = k.pair table index in
      let r = C.pair table index in
      let left : Answer Pair → Pair = λ x. pair (later lower_of x r.lower.before) (later higher_of x r.higher.before) (later degree_of x r.degree.before) in
      numbers p.answers p.leaves_lower p.leaves_higher p.leaves_degree ∙ pair_decodes table index left whole
    where
      numbers : {c c' l l' h h' d d' : ℕ} → c ≡ c' → l ≡ l' → h ≡ h' → d ≡ d' → answer_of c (pair l h d) ≡ answer_of c' (pair l' h' d')
      numbers a b e f = cc

      whole : (x : Pair) → pair (lower_of x) (higher_of x) (degree_of x) ≡ x
      whole (pair l h d) = refl

  widens : (words output : List ℕ) → (program_of_c C).widen words output ≡ widen_call words output
  widens words output =
      let p = k.widen words output in
      ap₂ (λ a l. record { answer = a; output = l }) (number_read (C.widen words output).count (widen_decodes words output) p.answers p.written-later) p.output-later

  records : (bytes text ends numbers : List ℕ) (heading absent : ℕ) (nodes : List ℕ)
      → (program_of_c C).marc_heading bytes text ends numbers heading absent nodes ≡ heading_call bytes (known_in text ends numbers) heading absent nodes
  records bytes text ends numbers heading absent nodes = go (leb (length (known_in text ends numbers)) most_strings) refl
    where
      -- with a list that can be lent
      read : length (known_in text ends numbers) ≤ most_strings
          → heading_of (C.marc_heading bytes text ends numbers heading absent nodes) ≡ heading_call bytes (known_in text ends numbers) heading absent nodes
      read few =
          let p = k.marc_heading_lem bytes text ends numbers heading absent nodes few in
          ap₂ (λ a l. record { answer = a; output = l })
          (ap (λ c. answer_of c aye) p.answers ∙ record_decodes bytes text ends numbers heading absent nodes few) p.leaves

      go : (b : Bool) → leb (length (known_in text ends numbers)) most_strings ≡ b
          → cond b (heading_of (C.marc_heading bytes text ends numbers heading absent nodes)) (heading_call bytes (known_in text ends numbers) heading absent nodes)
          ≡ heading_call bytes (known_in text ends numbers) heading absent nodes
      go true e = read (leb-true (length (known_in text ends numbers)) most_strings e)
      go false e = refl

  promise : Promise (program_of_c C)
  promise =
      record {
        is_table_lem-is = tables;
        symbol_degree_lem-is = symbols;
        heading_degree_lem = headings;
        subterm = subterms;
        nearer = nearest;
        match = matches;
        write_table_lem-is = writes;
        arity_of_lem-is = arities_back;
        pair_of_lem = pairs_back;
        widen = widens;
        marc_heading_lem = records;
      }

  -- THEOREM: whatever the exports' promises allow, the demands hold of it
  pub c_users_have : Demand1 (program_of_c C) × Demand2 (program_of_c C) × Demand3 (program_of_c C) × Further (program_of_c C)
  c_users_have = keeps (program_of_c C) promise

  -- THEOREM: .. and a refused call leaves behind its pointers what they held, a refused match the degrees 0 and 0
  pub c_refused_leaves : RefusedLeaves C
  c_refused_leaves =
      record {
        symbol_degree_lem-is = λ table a b n place e. untouched (λ d. d) _ (inv (symbols table a b) ∙ e) (k.symbol_degree_lem-is table a b).leaves;
        heading_degree_lem = λ table one two n place e. untouched (λ d. d) _ (inv (headings table one two) ∙ e) (k.heading_degree_lem table one two).leaves;
        match = λ table pattern heading cut spans sets n place e.
            let p = k.match table pattern heading cut spans sets in
            let is = inv (match_answers table pattern heading cut spans sets) ∙ e in
            (p.lowest-later ∙ ap lowest_in is, p.highest-later ∙ ap highest_in is);
        write_table_lem-is = λ arities pairs output n place e.
            untouched (λ d. d) _ (inv (writer_answers arities pairs output) ∙ e) (k.write_table_lem-is arities (records_of pairs) output).total-later;
        arity = λ table symbol n place e. untouched (λ d. d) _ (inv (arities_back table symbol) ∙ e) (k.arity table symbol).leaves;
        pair = λ table index n place e.
            let p = k.pair table index in
            let is = inv (pairs_back table index) ∙ e in
            (untouched lower_of _ is p.leaves_lower, untouched higher_of _ is p.leaves_higher, untouched degree_of _ is p.leaves_degree);
        widen = λ words output n place e. untouched (λ d. d) _ (inv (ap (λ w. w.answer) (widens words output)) ∙ e) (k.widen words output).written-later;
      }

  -- THEOREM: .. and counts and numbers are in range
  pub c_in_range : InRange C
  c_in_range =
      record {
        nodes = λ table term index l. rw (k.subterm table term index) (subterm_inside table term index (rw (k.subterm table term index) at l));
        candidates = λ table heading one two. rw (k.nearer table heading one two) (chosen_few (nearer table heading one two));
        neither = λ table heading one two.
            let w = none-chosen (nearer table heading one two) in
            let q = meant-nearest.neither_if table heading one two in
            rw (k.nearer table heading one two) (λ e. q.0 (w.0 e), λ g. w.1 (q.1 g));
      }

-- ---- the promises can be kept, whatever the numbers held

module _ (held : ℕ) where
  abbrev number : Answer ℕ → CNumber
  number answer = record { code = coded answer; number = record { before = held; after = later_number answer held } }

  -- results that are all allowed
  pub some_c_calls : CCalls
  some_c_calls =
      record {
        table = λ table. coded (is_table_lem table);
        symbol_degree_lem = λ table a b. number (symbol_degree_lem table a b);
        heading_degree = λ table one two. number (heading_degree table one two);
        subterm = λ table term i. count_of (subterm table term i);
        nearer = λ table heading one two. chosen (nearer table heading one two);
        match = λ table pattern heading cut spans sets.
            let answer = matched table pattern heading cut spans sets in
            record {
              code = coded answer;
              spans = later_spans table pattern heading cut spans sets;
              sets = later_sets table pattern heading cut spans sets;
              lowest = record { before = held; after = lowest_in answer };
              highest = record { before = held; after = highest_in answer };
            };
        write_table_lem = λ arities records output.
            let r = number (written arities (listed records) output) in
            record { code = r.code; output = later_output arities (listed records) output; count = r.number };
        arity = λ table symbol. number (arity_back table symbol);
        pair = λ table index.
            let answer = pair_back table index in
            record {
              code = coded answer;
              lower = record { before = held; after = later lower_of answer held };
              higher = record { before = held; after = later higher_of answer held };
              degree = record { before = held; after = later degree_of answer held };
            };
        widen = λ words output. let r = number (widened_count words output) in record { code = r.code; output = later_words words output; count = r.number };
        marc_heading = λ bytes text ends numbers heading absent nodes.
            let r = heading_call bytes (known_in text ends numbers) heading absent nodes in record { code = wide_coded r.answer; nodes = r.output };
      }

  -- THEOREM: so what `c_users_have` supposes can be met
  pub c_kept : CKept some_c_calls
  unfolding some_c_calls
  c_kept =
      record {
        table = λ table. refl;
        symbol_degree_lem-is = λ table a b. record { answers = refl; leaves = refl };
        heading_degree_lem = λ table one two. record { answers = refl; leaves = refl };
        subterm = λ table term i. refl;
        nearer = λ table heading one two. refl;
        match = λ table pattern heading cut spans sets.
            record { answers = refl; spans_later = refl; sets_later = refl; lowest-later = refl; highest-later = refl };
        write_table_lem-is = λ arities records output. record { answers = refl; output-later = refl; total-later = refl };
        arity = λ table symbol. record { answers = refl; leaves = refl };
        pair = λ table index. record { answers = refl; leaves_lower = refl; leaves_higher = refl; leaves_degree = refl };
        widen = λ words output. record { answers = refl; output-later = refl; written-later = refl };
        marc_heading_lem = λ bytes text ends numbers heading absent nodes few. record { answers = refl; leaves = refl };
      }
