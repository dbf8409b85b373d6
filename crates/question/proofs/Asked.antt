-- The program copies at most 1,025 nodes of a list and lends sets that are no zeros, where the meaning has the whole lists and zeros. The text
-- is the same: a list that is too long is refused however much of it is there, a match writes all of what it is lent, and zeros behind what
-- is packed are in no set.
use mathlib.Core.Path.{◌≡◌, refl, sym, ap, ap₂, ◌∙◌, fun_ext}
use mathlib.Core.List.{List, [], ◌∷◌, ◌++◌, map, append_assoc}
use mathlib.Core.Bool.{true, false}
use mathlib.Core.Option.{Option, none, some as just}
use Prim.Native.Nat.{ℕ, zero, suc, ◌+◌, ◌-◌, ◌*◌, ◌/◌, ◌%◌, ◌≤◌, ◌<◌}
use native.Mathlib.Decide.{dec_lt}
use native.Mathlib.Omega.{arith}
use lib.ListN.{length, get_or, take, length-replicate}
use lib.Seq.{length-take-le, take_all}
use borrow.Author.Tests.{le-ltb}
use Rattle.theory.specs.Least.{collect}
use Rattle.theory.specs.Faces.{Face}
use Rattle.theory.specs.Match.{lowest_of_lem, highest_of}
use Rattle.theory.specs.Read.{Reading, reading}
use Rattle.meaning.specs.Limits.{word_bits, set_words_lem, set_room, variable_count, span_width}
use Rattle.meaning.specs.File.{number, table_in}
use Rattle.meaning.specs.Refusals.{Refusal, refusal, number_of, place_of, Row, row, fault_of, first, table_rows, row5, row6, row7, row8, row12}
use Rattle.meaning.specs.Packing.{through, packed_spans, packed_sets}
use Rattle.meaning.specs.Calls.{zeros, faces_in, input_rows, search_rows, match_call}
use Rattle.meaning.specs.Buffers.{first_position_lem, position_count_lem, bit, holds}
use Rattle.meaning.specs.Program.{decimal, line, variable_lines, refused_text, cut_in, pattern_in, heading_in, table_bytes, asked, text_unless, output}
use Rattle.meaning.proofs.Bits.{get_or_zeros}
use Rattle.meaning.proofs.Compose.{by_input, by_search, by_answer}
use Rattle.std.specs.Prelude.{Result, Ok}
use Rattle.refusal.specs.declared.Degrees.{Degrees}
use Rattle.refusal.specs.declared.Refusal.{Refusal as Why}
use Rattle.refusal.specs.Outcomes.{result_of}
use Rattle.lines.specs.Lines.{text_in, outcome_line, variable_line, symbols_line, upward}
use Rattle.lines.proofs.Rest.{some_lines, no_lines}
use Rattle.shape.proofs.Copying.{length_numbers}
use Rattle.question.proofs.Cutting.{cut_reading, long_reading}

-- ---- refused by a list that is too long

some_first : (xs : List Row) (n place : ℕ) → (g : Refusal) × ((ys : List Row) → first (xs ++ (row n (just place) ∷ ys)) ≡ just g)
some_first [] n place = (refusal n place, λ ys. refl)
some_first (row m (just i) ∷ xs) n place = (refusal m i, λ ys. refl)
some_first (row m none ∷ xs) n place = some_first xs n place

module _ (table : List ℕ) (cut : ℕ) where
  pattern_long : (g : Refusal) × ((pattern heading spans sets : List ℕ) → 1024 < length pattern → first (input_rows table pattern heading cut spans sets) ≡ just g)
  unfolding input_rows row6
  pattern_long =
      let T = table_in table in
      let before = table_rows table ++ (row5 cut ∷ []) in
      let s = some_first before 6 1024 in (
        s.0,
        λ pattern heading spans sets l.
            let after = row7 T heading ∷ row8 heading spans sets ∷ [] in
            ap first (sym (append_assoc (table_rows table) (row5 cut ∷ []) (row6 T true pattern ∷ after)))
            ∙ ap (λ r. first (before ++ (row 6 (fault_of r) ∷ after))) (long_reading T true pattern l)
            ∙ s.1 after,
      )

  heading_long : (pattern : List ℕ) → (g : Refusal) × ((pattern' heading spans sets : List ℕ) → reading (table_in table) true pattern' ≡ reading (table_in table) true pattern
      → 1024 < length heading → first (input_rows table pattern' heading cut spans sets) ≡ just g)
  unfolding input_rows row6 row7
  heading_long pattern =
      let T = table_in table in
      let rows : Reading → List Row = λ r. row5 cut ∷ row 6 (fault_of r) ∷ [] in
      let before = table_rows table ++ rows (reading T true pattern) in
      let s = some_first before 7 1024 in (
        s.0,
        λ pattern' heading spans sets e l.
            let after = row8 heading spans sets ∷ [] in
            ap (λ r. first (table_rows table ++ (rows r ++ (row7 T heading ∷ after)))) e
            ∙ ap first (sym (append_assoc (table_rows table) (rows (reading T true pattern)) (row7 T heading ∷ after)))
            ∙ ap (λ r. first (before ++ (row 7 (fault_of r) ∷ after))) (long_reading T false heading l)
            ∙ s.1 after,
      )

-- ---- more zeros behind the sets

module _ (sets : List ℕ) (m n : ℕ) where
  padded : (xs : List ℕ) (i : ℕ) → get_or (xs ++ zeros m) i 0 ≡ get_or (xs ++ zeros n) i 0
  padded [] i = get_or_zeros m i ∙ sym (get_or_zeros n i)
  padded (x ∷ xs) zero = refl
  padded (x ∷ xs) (suc i) = padded xs i

  same_symbols : (p : ℕ) → symbols_line (sets ++ zeros m) p ≡ symbols_line (sets ++ zeros n) p
  unfolding symbols_line holds
  same_symbols p =
      let same : (k : ℕ) → holds (sets ++ zeros m) p k ≡ holds (sets ++ zeros n) p k = λ k. ap (bit (k % word_bits)) (padded sets (set_words_lem * p + k / word_bits)) in
      ap (λ f. line (map decimal (collect set_room f))) (fun_ext same)

  same_lines : (outcome : Result Degrees Why) (spans : List ℕ) (v : ℕ) → variable_lines (result_of outcome spans (sets ++ zeros m)) v ≡ variable_lines (result_of outcome spans (sets ++ zeros n)) v
  same_lines outcome spans v = go (dec_lt 0 (position_count_lem spans v))
    where
      go : Dec (0 < position_count_lem spans v) → variable_lines (result_of outcome spans (sets ++ zeros m)) v ≡ variable_lines (result_of outcome spans (sets ++ zeros n)) v
      go (yes l) =
          let here : (i : ℕ) → symbols_line (sets ++ zeros m) (first_position_lem spans v + i) ≡ symbols_line (sets ++ zeros n) (first_position_lem spans v + i) = λ i. same_symbols (first_position_lem spans v + i) in
          some_lines outcome spans (sets ++ zeros m) v l
          ∙ ap (λ f. variable_line spans v ++ upward 0 (position_count_lem spans v - 0) f) (fun_ext here)
          ∙ sym (some_lines outcome spans (sets ++ zeros n) v l)
      go (no l) = no_lines outcome spans (sets ++ zeros m) v (omega arith) ∙ sym (no_lines outcome spans (sets ++ zeros n) v (omega arith))

  same_text : (low high : ℕ) (spans : List ℕ) → let outcome : Result Degrees Why = Ok (record { lowest = low; highest = high }) in text_in (result_of outcome spans (sets ++ zeros m)) ≡ text_in (result_of outcome spans (sets ++ zeros n))
  unfolding outcome_line
  same_text low high spans = let outcome : Result Degrees Why = Ok (record { lowest = low; highest = high }) in ap (λ f. outcome_line outcome ++ through variable_count f) (fun_ext (same_lines outcome spans))

-- ---- other memory, and lists that are cut

abbrev spans : List ℕ
spans = zeros (span_width * variable_count)

module _ (table pattern heading : List ℕ) (cut : ℕ) (sets sets' : List ℕ) (room : set_words_lem * length heading ≤ length sets) (room' : set_words_lem * length heading ≤ length sets') where
  enough : (ws : List ℕ) → set_words_lem * length heading ≤ length ws → row8 heading spans ws ≡ row 8 none
  unfolding row8
  enough ws l = rw (le-ltb (length ws) (set_words_lem * length heading) l)

  same_input : input_rows table pattern heading cut spans sets ≡ input_rows table pattern heading cut spans sets'
  unfolding input_rows
  same_input =
      let T = table_in table in
      ap (λ r. table_rows table ++ (row5 cut ∷ row6 T true pattern ∷ row7 T heading ∷ r ∷ [])) (enough sets room ∙ sym (enough sets' room'))

  room_text : text_in (match_call table pattern heading cut spans sets) ≡ text_in (match_call table pattern heading cut spans sets')
  room_text = by (first (input_rows table pattern heading cut spans sets')) refl
    where
      fs : List Face
      fs = faces_in table pattern heading

      searched : (o : Option Refusal) → first (input_rows table pattern heading cut spans sets') ≡ none → first (search_rows table pattern heading cut) ≡ o
          → text_in (match_call table pattern heading cut spans sets) ≡ text_in (match_call table pattern heading cut spans sets')
      searched (just (refusal k place)) e q =
          ap text_in (by_search table pattern heading cut spans sets k place (ap first same_input ∙ e) q)
          ∙ sym (ap text_in (by_search table pattern heading cut spans sets' k place e q))
      searched none e q =
          let packed = packed_sets (table_in table) cut fs in
          ap text_in (by_answer table pattern heading cut spans sets (ap first same_input ∙ e) q)
          ∙ same_text packed (length sets - length packed) (length sets' - length packed) (lowest_of_lem (table_in table) cut fs) (highest_of (table_in table) cut fs) (packed_spans (table_in table) cut fs ++ zeros (length spans - length (packed_spans (table_in table) cut fs)))
          ∙ sym (ap text_in (by_answer table pattern heading cut spans sets' e q))

      by : (o : Option Refusal) → first (input_rows table pattern heading cut spans sets') ≡ o
          → text_in (match_call table pattern heading cut spans sets) ≡ text_in (match_call table pattern heading cut spans sets')
      by (just (refusal k place)) e =
          ap text_in (by_input table pattern heading cut spans sets k place (ap first same_input ∙ e))
          ∙ sym (ap text_in (by_input table pattern heading cut spans sets' k place e))
      by none e = searched (first (search_rows table pattern heading cut)) e refl

module _ (table : List ℕ) (cut : ℕ) where
  refused_text_lem : (g : Refusal) (pattern heading sets : List ℕ) → first (input_rows table pattern heading cut spans sets) ≡ just g
      → text_in (match_call table pattern heading cut spans sets) ≡ refused_text (number_of g) (place_of g)
  refused_text_lem (refusal n place) pattern heading sets e = ap text_in (by_input table pattern heading cut spans sets n place e)

  -- LAW: lists cut to 1,025 nodes, and a set for each node that is left, give the same text
  pub cut_text : (pattern heading sets : List ℕ) → set_words_lem * length (take 1025 heading) ≤ length sets
      → text_in (match_call table (take 1025 pattern) (take 1025 heading) cut spans sets) ≡ text_in (match_call table pattern heading cut spans (zeros (set_words_lem * length heading)))
  cut_text pattern heading sets room = go (dec_lt 1024 (length heading)) (dec_lt 1024 (length pattern))
    where
      p : List ℕ
      p = take 1025 pattern

      h : List ℕ
      h = take 1025 heading

      all : List ℕ
      all = zeros (set_words_lem * length heading)

      go : Dec (1024 < length heading) → Dec (1024 < length pattern) → text_in (match_call table p h cut spans sets) ≡ text_in (match_call table pattern heading cut spans all)
      go (yes l) d =
          let long = heading_long table cut pattern in
          refused_text_lem long.0 p h sets (long.1 p h spans sets (cut_reading (table_in table) true pattern) (omega (arith, length-take-le 1025 heading l)))
          ∙ sym (refused_text_lem long.0 pattern heading all (long.1 pattern heading spans all refl l))
      go (no k) (yes l) =
          let long = pattern_long table cut in
          refused_text_lem long.0 p h sets (long.1 p h spans sets (omega (arith, length-take-le 1025 pattern l)))
          ∙ sym (refused_text_lem long.0 pattern heading all (long.1 pattern heading spans all l))
      go (no k) (no l) =
          let whole = take_all 1025 heading (omega arith) in
          ap₂ (λ x y. text_in (match_call table x y cut spans sets)) (take_all 1025 pattern (omega arith)) whole
          ∙ room_text table pattern heading cut sets all (omega (arith, room, ap length whole)) (omega (arith, length-replicate {A = ℕ} (set_words_lem * length heading) 0))

module _ (input : List ℕ) where
  -- LAW: .. and so the text that is asked for
  pub asked_text : (sets : List ℕ) → set_words_lem * length (take 1025 (heading_in input)) ≤ length sets
      → text_in (match_call (table_bytes input) (take 1025 (pattern_in input)) (take 1025 (heading_in input)) (cut_in input) spans sets) ≡ text_in (asked input)
  unfolding asked heading_in
  asked_text sets room =
      cut_text (table_bytes input) (cut_in input) (pattern_in input) (heading_in input) sets room
      ∙ ap (λ n. text_in (match_call (table_bytes input) (pattern_in input) (heading_in input) (cut_in input) spans (zeros (set_words_lem * n)))) (length_numbers input (14 + 2 * number input 2) (number input 4))

  -- LAW: what is written for a question that is not misshapen, and for one that is
  pub output-asked : row12 input ≡ row 12 none → output input ≡ text_in (asked input)
  unfolding output
  output-asked e = ap (λ r. text_unless (first (r ∷ [])) (asked input)) e

  pub output-misshapen : row12 input ≡ row 12 (just 0) → output input ≡ refused_text 12 0
  unfolding output
  output-misshapen e = ap (λ r. text_unless (first (r ∷ [])) (asked input)) e
