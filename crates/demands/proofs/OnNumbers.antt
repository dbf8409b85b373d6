-- Both writers promise the meaning's answer for the pairs that they are given, so they agree. A pair that lacks its degree has the degree 0 and may not be
-- listed: then row 4 refuses, if neither 2 nor 3 does before.
use mathlib.Core.Path.{◌≡◌, refl, sym as inv, ap, ap₂, ◌∙◌}
use mathlib.Core.List.{List, [], ◌∷◌, ◌++◌}
use mathlib.Core.Bool.{false, false≢true}
use mathlib.Core.Option.{Option, none, some as just}
use Prim.Native.Nat.{ℕ, ◌/◌, ◌%◌, ◌≤◌}
use native.Mathlib.Omega.{arith}
use lib.ListN.{length}
use Rattle.theory.specs.Least.{All, least_below}
use Rattle.theory.specs.Pairs.{Pair}
use Rattle.theory.proofs.Lemmas.{both_false, least-none}
use Rattle.meaning.specs.File.{total, pairs_of}
use Rattle.meaning.specs.Refusals.{Row, row, row_number, first, unordered, bad_pair_lem, row2, row3, row4, row8-output}
use Rattle.meaning.specs.Calls.{Answer, refused, unless, writer_rows, written, later_output}
use Rattle.meaning.proofs.RoundTrip.{round_trip}
use Rattle.writer.proofs.Numbers.{length-pairs_of, cut_short}
use Rattle.writer.proofs.Answers.{one_said}
use Rattle.demands.specs.Public.{Calls, Kept, records_of}
use Rattle.demands.specs.OnNumbers.{RefusedEarly, OnNumbers}
use Rattle.demands.proofs.Public.{records_list}

-- a refusal by 2, 3 or 4
abbrev Early : {A : Type 0} → Answer A → Type 0
Early a = (n : ℕ) × (place : ℕ) × (2 ≤ n) × (n ≤ 4) × (a ≡ refused n place)

early : {A : Type 0} (a : A) (before : List Row) (i : ℕ) (after : List Row) → All (λ r. (2 ≤ row_number r) × (row_number r ≤ 4)) before → Early (unless (first (before ++ (row 4 (just i) ∷ after))) a)
early a [] i after b = (4, i, omega arith, omega arith, refl)
early a (row n (just j) ∷ before) i after b = (n, j, b.0.0, b.0.1, refl)
early a (row n none ∷ before) i after b = early a before i after b.1

module _ (arities numbers output : List ℕ) (lacks : length numbers % 3 ≡ 0 → ⊥) where
  abbrev pairs : List Pair
  pairs = pairs_of numbers

  -- the last pair may not be listed
  bad : bad_pair_lem arities pairs (length numbers / 3) ≡ false → ⊥
  bad e = false≢true (inv (both_false _ (unordered pairs (length numbers / 3)) e).0 ∙ cut_short arities numbers (length numbers / 3) (omega arith))

  refused_early : Early (written arities pairs output)
  unfolding written writer_rows row2 row3 row4
  refused_early = go (least_below (length pairs) (bad_pair_lem arities pairs)) refl
    where
      before : List Row
      before = row2 (length arities) (length pairs) ∷ row3 arities ∷ []

      after : List Row
      after = row8-output (total (length arities) (length pairs)) output ∷ []

      go : (o : Option ℕ) → least_below (length pairs) (bad_pair_lem arities pairs) ≡ o → Early (unless (first (before ++ (row 4 o ∷ after))) (total (length arities) (length pairs)))
      go (just i) q = early (total (length arities) (length pairs)) before i after ((omega arith, omega arith), ((omega arith, omega arith), tt))
      go none q = absurd (bad (least-none (length pairs) (bad_pair_lem arities pairs) q (length numbers / 3) (omega (arith, length-pairs_of numbers, lacks))))

module _ (C : Calls) (k : Kept C) where
  as_records : (arities numbers output : List ℕ) → C.write_table_lem arities numbers output ≡ C.write_records_lem arities (records_of (pairs_of numbers)) output
  as_records arities numbers output =
      let p = k.write_table_lem-is arities numbers output in
      let q = k.write_records_lem-is arities (records_of (pairs_of numbers)) output in
      let e = ap (λ pairs. written arities pairs output) (records_list (pairs_of numbers)) in
      let f = ap (λ pairs. later_output arities pairs output) (records_list (pairs_of numbers)) in
      ap₂ (λ w l. record { writing = w; output = l }) (one_said _ _ (p.answers ∙ inv (q.answers ∙ e))) (p.leaves ∙ inv (q.leaves ∙ f))

  unfinished : (arities numbers output : List ℕ) → (length numbers % 3 ≡ 0 → ⊥) → RefusedEarly output (C.write_table_lem arities numbers output)
  unfinished arities numbers output lacks =
      let p = k.write_table_lem-is arities numbers output in
      let e = refused_early arities numbers output lacks in
      record {
        n = e.0;
        place = e.1;
        from_two = e.2;
        to_four = e.3;
        answers = p.answers ∙ e.4;
        leaves = p.leaves ∙ (round_trip.read_written arities (pairs_of numbers) output).refusal_leaves e.0 e.1 e.4;
      }

  -- THEOREM: whatever results the public promises allow, so it is with the writer on numbers
  pub on_numbers : OnNumbers C
  on_numbers = record { as_records = as_records; unfinished = unfinished }
