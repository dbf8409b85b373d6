-- The other direction for the calls for C: where the demands hold of them, refused calls leave what is said, and counts and numbers are in range, the
-- exports' promises are kept. A code is told by the answer that is read from it, and what the pointers have by what is given; a count by the list that it
-- shows; and a candidate's number by the reference, since the two may be lent from different blocks.
use mathlib.Core.Path.{◌≡◌, refl, sym as inv, ap, subst, ◌∙◌}
use mathlib.Core.List.{List, [], ◌∷◌}
use mathlib.Core.Logic.{◌↔◌, inl, inr}
use mathlib.Core.Bool.{Bool, true, false, cond}
use Prim.Native.Nat.{ℕ, zero, suc, ◌+◌, ◌*◌, ◌/◌, ◌%◌, ◌≤◌, ◌<◌}
use native.Mathlib.Omega.{arith}
use lib.Dec.{eqb}
use lib.ListN.{length, drop, length-take, length-drop}
use borrow.Author.Tests.{eqb-true, eqb-false, le-leb}
use Rattle.theory.specs.Pairs.{pair}
use Rattle.meaning.specs.Calls.{Answer, refused, gives, Yes, aye, Part, Nearer, the_first, the_second_lem, neither, lowest_in, highest_in, degrees, Degrees}
use Rattle.meaning.specs.Tables.{Wrote}
use Rattle.meaning.proofs.Parts.{nearest}
use Rattle.table.specs.declared.read.Pair.{Pair as Record}
use Rattle.records.specs.Records.{listed}
use Rattle.headings.specs.Terms.{Nodes, IsPart, IsChosen}
use Rattle.marc.specs.Known.{known_in}
use Rattle.marc.specs.Heading.{heading_call}
use Rattle.capi.specs.Answers.{coded, later, later_number}
use Rattle.capi.specs.Tables.{lower_of, higher_of, degree_of, ShxPair}
use Rattle.capi.specs.Terms.{count_of, chosen}
use Rattle.capi.specs.Matching.{ShxMatch}
use Rattle.capi.specs.Writing.{ShxWriteTable}
use Rattle.capi.specs.Marc.{highest_place, wide_coded, ShxMarcHeading}
use Rattle.capi.proofs.OneCapi.{told_itself}
use Rattle.demands.specs.Program.{Promise}
use Rattle.demands.specs.Public.{records_of}
use Rattle.demands.specs.ForC.{Cell, CWriting, CCalls, CKept, most_strings, answer_of, program_of_c, subterm_of, nearer_of, heading_of, InRange, Untouched, RefusedLeaves}
use Rattle.demands.specs.Demand1.{Demand1}
use Rattle.demands.specs.Demand2.{Demand2}
use Rattle.demands.specs.Further.{Further}
use Rattle.demands.proofs.Decoded.{place_told, Shown, shown}
use Rattle.demands.proofs.Settles.{settles}

-- ---- codes

module _ {A : Type 0} (code : ℕ) (a : A) where
  -- a code is that of the answer which is read from it
  is_code : code ≡ coded (answer_of code a)
  is_code = go (eqb code 0) refl
    where
      go : (b : Bool) → eqb code 0 ≡ b → code ≡ coded (answer_of code a)
      go true e = rw e (eqb-true code 0 e)
      go false e = rw e (omega arith)

  module _ (answer : Answer A) (is : answer_of code a ≡ answer) where
    code_back : code ≡ coded answer
    code_back = is_code ∙ ap coded is

    -- what was given is what the pointers have
    value_back : (b : A) → answer ≡ gives b → a ≡ b
    value_back b e = go (eqb code 0) (is ∙ e)
      where
        go : (t : Bool) → cond t (gives a) (refused (code % 65536) (code / 65536)) ≡ gives b → a ≡ b
        go true q = cc
        go false q = let z : ◌≡◌ {A = ℕ} 0 1 = cc in absurd (omega arith)

  -- what one of them has later, if a refusal leaves it
  left_back : (field : A → ℕ) (before : ℕ) (answer : Answer A) → answer_of code a ≡ answer → ((n place : ℕ) → answer_of code a ≡ refused n place → field a ≡ before)
      → field a ≡ later field answer before
  left_back field before (gives b) is kept = ap field (value_back (gives b) is b refl)
  left_back field before (refused n place) is kept = kept n place is

-- a number with its code
number_back : (code : ℕ) (c : Cell) (answer : Answer ℕ) → answer_of code c.after ≡ answer → ((n place : ℕ) → answer_of code c.after ≡ refused n place → Untouched c)
    → (code ≡ coded answer) × (c.after ≡ later_number answer c.before)
number_back code c answer is kept = (code_back code c.after answer is, left_back code c.after (λ n. n) c.before answer is kept)

-- .. and with an output
writing_back : (r : CWriting) (w : Wrote) → record { answer = answer_of r.code r.count.after; output = r.output } ≡ w
    → ((n place : ℕ) → answer_of r.code r.count.after ≡ refused n place → Untouched r.count)
    → (r.code ≡ coded w.answer) × (r.count.after ≡ later_number w.answer r.count.before) × (r.output ≡ w.output)
writing_back r w is kept = let b = number_back r.code r.count w.answer (ap (λ x. x.answer) is) kept in (b.0, b.1, ap (λ x. x.output) is)

-- the degrees of a match
degrees_back : (code low high : ℕ) (answer : Answer Degrees) → answer_of code (degrees low high) ≡ answer
    → ((n place : ℕ) → answer_of code (degrees low high) ≡ refused n place → (low ≡ 0) × (high ≡ 0)) → (low ≡ lowest_in answer) × (high ≡ highest_in answer)
degrees_back code low high (gives (degrees l h)) is none = let v = value_back code (degrees low high) _ is (degrees l h) refl in (cc, cc)
degrees_back code low high (refused n place) is none = none n place is

-- a code of 64 bits is made as others are, where 48 tell the place
wide_is : (answer : Answer Yes) → ((n place : ℕ) → answer ≡ refused n place → place ≤ highest_place) → coded answer ≡ wide_coded answer
wide_is (gives a) low = refl
wide_is (refused n place) low = ap (λ p. n + 65536 * p) (told_itself place place refl (low n place refl))

-- ---- counts

-- the part that a count shows has as many nodes
as_many : (term : Nodes) (i count : ℕ) → (0 < count → i + count ≤ length term.now) → length (subterm_of term i count).now ≡ count
as_many term i count inside = go (eqb count 0) refl
  where
    go : (b : Bool) → eqb count 0 ≡ b → length (subterm_of term i count).now ≡ count
    go true e = rw e (inv (eqb-true count 0 e))
    go false e =
        let some : 0 < count = omega (arith, eqb-false count 0 e) in
        rw e (omega (arith, inside some, length-take count (drop i term.now), length-drop i term.now))

count_back : (term : Nodes) (i count : ℕ) → (0 < count → i + count ≤ length term.now) → (p : Part) → Shown term.now i p → IsPart term (subterm_of term i count) p → count ≡ count_of p
count_back term i count inside p (inl e) is = inv (as_many term i count inside) ∙ ap length (subst (IsPart term (subterm_of term i count)) e is).holds ∙ ap count_of (inv e)
count_back term i count inside p (inr (n, l, m, e)) is =
    let h = ap length (subst (IsPart term (subterm_of term i count)) e is).holds in
    omega (arith, as_many term i count inside, h, length-take n (drop i term.now), length-drop i term.now, m, ap count_of e)

-- ---- candidates

-- a list, lent from this block
abbrev lent_from : ℕ → List ℕ → Nodes
lent_from block list = record { ref_ptr = (block, 0); now = list }

candidate_back : (one two : List ℕ) (number : ℕ) (which : Nearer) → number ≤ 2 → number ≡ 0 ↔ (which ≡ neither)
    → IsChosen (lent_from 0 one) (lent_from 1 two) (nearer_of (lent_from 0 one) (lent_from 1 two) number) which → number ≡ chosen which
candidate_back one two number neither few none is = none.1 refl
candidate_back one two zero the_first few none is = let e = none.0 refl in let z : ◌≡◌ {A = ℕ} 0 1 = cc in absurd (omega arith)
candidate_back one two (suc zero) the_first few none is = refl
candidate_back one two (suc (suc zero)) the_first few none is = let z : ◌≡◌ {A = ℕ} 1 0 = ap (λ r. r.ref_ptr.0) is in absurd (omega arith)
candidate_back one two (suc (suc (suc n))) the_first few none is = absurd (omega arith)
candidate_back one two zero the_second_lem few none is = let e = none.0 refl in let z : ◌≡◌ {A = ℕ} 0 1 = cc in absurd (omega arith)
candidate_back one two (suc zero) the_second_lem few none is = let z : ◌≡◌ {A = ℕ} 0 1 = ap (λ r. r.ref_ptr.0) is in absurd (omega arith)
candidate_back one two (suc (suc zero)) the_second_lem few none is = refl
candidate_back one two (suc (suc (suc n))) the_second_lem few none is = absurd (omega arith)

-- ---- the records of what records list

records_back : (records : List Record) → records_of (listed records) ≡ records
records_back [] = refl
records_back (r ∷ records) = ap (λ rs. r ∷ rs) (records_back records)

module _ (C : CCalls) (one : Demand1 (program_of_c C)) (two : Demand2 (program_of_c C)) (more : Further (program_of_c C)) (left : RefusedLeaves C) (range : InRange C) where
  promised : Promise (program_of_c C)
  promised = settles (program_of_c C) one two more

  matches : (table pattern heading : List ℕ) (cut : ℕ) (spans sets : List ℕ)
      → let r = C.match table pattern heading cut spans sets in ShxMatch table pattern heading cut spans sets r.code r.spans r.sets r.lowest.after r.highest.after
  matches table pattern heading cut spans sets =
      let r = C.match table pattern heading cut spans sets in
      let is = promised.match table pattern heading cut spans sets in
      let answers = ap (λ m. m.answer) is in
      let d = degrees_back r.code r.lowest.after r.highest.after _ answers (left.match table pattern heading cut spans sets) in
      record {
        answers = code_back r.code (degrees r.lowest.after r.highest.after) _ answers;
        spans_later = ap (λ m. m.spans) is;
        sets_later = ap (λ m. m.sets) is;
        lowest-later = d.0;
        highest-later = d.1;
      }

  pairs : (table : List ℕ) (index : ℕ)
      → let r = C.pair table index in ShxPair table index r.lower.before r.higher.before r.degree.before r.code r.lower.after r.higher.after r.degree.after
  pairs table index =
      let r = C.pair table index in
      let read = pair r.lower.after r.higher.after r.degree.after in
      let is = promised.pair_of_lem table index in
      let kept = left.pair table index in
      record {
        answers = code_back r.code read _ is;
        leaves_lower = left_back r.code read lower_of _ _ is (λ n place e. (kept n place e).0);
        leaves_higher = left_back r.code read higher_of _ _ is (λ n place e. (kept n place e).1);
        leaves_degree = left_back r.code read degree_of _ _ is (λ n place e. (kept n place e).2);
      }

  writes : (arities : List ℕ) (records : List Record) (output : List ℕ)
      → let r = C.write_table_lem arities records output in ShxWriteTable arities records output r.count.before r.code r.output r.count.after
  writes arities records output =
      let w = writing_back (C.write_table_lem arities (records_of (listed records)) output) _ (promised.write_table_lem-is arities (listed records) output) (left.write_table_lem-is arities (listed records) output) in
      subst (λ rs. let r = C.write_table_lem arities rs output in ShxWriteTable arities records output r.count.before r.code r.output r.count.after)
      (records_back records)
      (record { answers = w.0; output-later = w.2; total-later = w.1 })

  records : (bytes text ends numbers : List ℕ) (heading absent : ℕ) (nodes : List ℕ) → length (known_in text ends numbers) ≤ most_strings
      → let r = C.marc_heading bytes text ends numbers heading absent nodes in ShxMarcHeading bytes text ends numbers heading absent nodes r.code r.nodes
  records bytes text ends numbers heading absent nodes few =
      let r = C.marc_heading bytes text ends numbers heading absent nodes in
      let meant = heading_call bytes (known_in text ends numbers) heading absent nodes in
      let is : heading_of r ≡ meant
      = ap (λ b. cond b (heading_of r) meant) (inv (le-leb (length (known_in text ends numbers)) most_strings few)) ∙ promised.marc_heading_lem bytes text ends numbers heading absent nodes in
      record {
        answers = code_back r.code aye _ (ap (λ h. h.answer) is) ∙ wide_is _ (place_told bytes text ends numbers heading absent nodes few);
        leaves = ap (λ h. h.output) is;
      }

  -- THEOREM
  pub c_settles : CKept C
  c_settles =
      record {
        table = λ table. code_back (C.table table) aye _ (promised.is_table_lem-is table);
        symbol_degree_lem-is = λ table a b.
            let r = number_back (C.symbol_degree_lem table a b).code (C.symbol_degree_lem table a b).number _ (promised.symbol_degree_lem-is table a b) (left.symbol_degree_lem-is table a b) in record { answers = r.0; leaves = r.1 };
        heading_degree_lem = λ table h k.
            let r = number_back (C.heading_degree table h k).code (C.heading_degree table h k).number _ (promised.heading_degree_lem table h k) (left.heading_degree_lem table h k) in record { answers = r.0; leaves = r.1 };
        subterm = λ table term i.
            let lent = lent_from 0 term in
            count_back lent i _ (range.nodes table term i) _ (shown table term i) (promised.subterm table lent i);
        nearer = λ table heading h k.
            let q = nearest.neither_if table heading h k in
            let n = range.neither table heading h k in
            candidate_back h k _ _ (range.candidates table heading h k) (λ e. q.1 (n.0 e), λ e. n.1 (q.0 e)) (promised.nearer table heading (lent_from 0 h) (lent_from 1 k));
        match = matches;
        write_table_lem-is = writes;
        arity = λ table symbol.
            let r = number_back (C.arity table symbol).code (C.arity table symbol).number _ (promised.arity_of_lem-is table symbol) (left.arity table symbol) in record { answers = r.0; leaves = r.1 };
        pair = pairs;
        widen = λ words output.
            let w = writing_back (C.widen words output) _ (promised.widen words output) (left.widen words output) in
            record { answers = w.0; output-later = w.2; written-later = w.1 };
        marc_heading_lem = records;
      }
