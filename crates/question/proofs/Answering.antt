-- The match is asked what the question asks, but for lists that are cut and memory that is no zeros; so it says what is written for the question.
use mathlib.Core.Path.{◌≡◌, sym, ap, ap₂, ◌∙◌}
use mathlib.Core.List.{List, ◌++◌}
use mathlib.Core.Option.{none, some as just}
use Prim.Native.Nat.{ℕ, ◌+◌, ◌-◌, ◌*◌, ◌≤◌, min}
use native.Mathlib.Omega.{arith}
use lib.ListN.{length, take, drop, length-drop}
use lib.Seq.{take_at, take_all}
use Rattle.meaning.specs.Limits.{set_words_lem, variable_count, span_width}
use Rattle.meaning.specs.File.{number}
use Rattle.meaning.specs.Refusals.{row, row12}
use Rattle.meaning.specs.Calls.{zeros}
use Rattle.meaning.specs.Program.{numbers_from, cut_in, pattern_in, heading_in, table_bytes}
use Rattle.matches.specs.Matching.{MatchHeading}
use Rattle.std.specs.Prelude.{Result, Err}
use Rattle.refusal.specs.declared.Degrees.{Degrees}
use Rattle.refusal.specs.declared.Refusal.{Refusal}
use Rattle.refusal.specs.declared.Refusal.TheVariants.{Misshapen}
use Rattle.lines.proofs.Spans.{zeros_spanned}
use Rattle.shape.specs.Rooms.{room_for}
use Rattle.shape.proofs.Shapes.{nodes_inside}
use Rattle.shape.proofs.Copying.{length_numbers, min_numbers}
use Rattle.shape.proofs.Rooms.{room_some}
use Rattle.question.specs.Answers.{AnsweredBy}
use Rattle.question.proofs.Spans.{match_spanned}
use Rattle.question.proofs.Asked.{asked_text, output-asked, output-misshapen}

abbrev blank : List ℕ
blank = zeros (span_width * variable_count)

-- LAW: what is copied to the front of 1,025 nodes is the list, cut
pub copied_list : (input : List ℕ) (at : ℕ) (out out' : List ℕ) (count n k : ℕ) → count ≡ n → length out ≡ 1025 → (k ≡ min count (length out)) × (out' ≡ numbers_from input at k ++ drop k out)
    → take k out' ≡ take 1025 (numbers_from input at n)
copied_list input at out out' count n k e l (q, copied) =
    let here : k ≡ min n 1025 = q ∙ ap₂ min e l in
    ap (take k) copied
    ∙ take_at (numbers_from input at k) (drop k out) k (length_numbers input at k)
    ∙ ap (numbers_from input at) here
    ∙ min_numbers input at n 1025

-- LAW: what is lent from a place on is all that lies there
pub rest_all : (xs : List ℕ) (k : ℕ) → take (length xs - k) (drop k xs) ≡ drop k xs
rest_all xs k = take_all (length xs - k) (drop k xs) (omega (arith, length-drop k xs))

module _ (input : List ℕ) where
  -- LAW: a set for each node of the heading that is cut
  pub room_enough : row12 input ≡ row 12 none → set_words_lem * length (take 1025 (heading_in input)) ≡ room_for input
  unfolding heading_in
  room_enough e =
      let at = 14 + 2 * number input 2 in
      let n = number input 4 in
      ap (λ xs. set_words_lem * length xs) (sym (min_numbers input at n 1025))
      ∙ ap (λ k. set_words_lem * k) (length_numbers input at (min n 1025))
      ∙ sym (room_some input (omega (arith, nodes_inside input e)))

  -- LAW: what the match says is the answer
  pub answered : {table pattern heading spans sets spans' sets' : List ℕ} {cut : ℕ} (outcome : Result Degrees Refusal) → row12 input ≡ row 12 none → room_for input ≤ length sets
      → table ≡ table_bytes input → pattern ≡ take 1025 (pattern_in input) → heading ≡ take 1025 (heading_in input) → cut ≡ cut_in input
      → spans ≡ blank → MatchHeading table pattern heading cut spans sets outcome spans' sets' → AnsweredBy input outcome spans' sets'
  answered {sets = sets} outcome e room its-table its-pattern its-heading its-cut clear given =
      let m = rw (its-table, its-pattern, its-heading, its-cut, clear) at given in
      let table = table_bytes input in
      let pattern = take 1025 (pattern_in input) in
      let heading = take 1025 (heading_in input) in
      let asks = asked_text input sets (omega (arith, room_enough e)) ∙ sym (output-asked input e) in
      record {
        text_is = rw (m.answers, m.spans_later, m.sets_later) asks;
        spanned = rw (m.spans_later, m.sets_later) (match_spanned table pattern heading (cut_in input) (span_width * variable_count) sets (omega arith));
      }

  -- LAW: a misshapen question's answer
  pub answered_misshapen : (sets : List ℕ) → row12 input ≡ row 12 (just 0) → AnsweredBy input (Err Misshapen) blank sets
  answered_misshapen sets e =
      record { text_is = sym (output-misshapen input e); spanned = zeros_spanned (span_width * variable_count) sets (omega arith) }
