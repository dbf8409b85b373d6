-- How a search that was accepted ends, in the steps that code takes: by a clash, by a variable that has no form, or with what is packed. Each is
-- the first of the meaning's rows 9 and 10 that holds, or none of them does.
use mathlib.Core.Path.{◌≡◌, refl, sym as inv, ap, ap₂, ◌∙◌}
use mathlib.Core.List.{List, [], ◌∷◌, ◌++◌}
use mathlib.Core.Bool.{Bool, true, false, cond}
use mathlib.Core.Option.{none, some as just}
use Prim.Native.Nat.{ℕ, ◌-◌, ◌*◌, ◌≤◌, ◌<◌}
use native.Mathlib.Omega.{arith}
use lib.Dec.{ltb}
use lib.ListN.{length, take, drop}
use lib.Seq.{take_at}
use borrow.Author.Tests.{ltb-true, ltb-false}
use Rattle.std.specs.Prelude.{Some, None}
use Rattle.theory.specs.Table.{Table}
use Rattle.theory.specs.Faces.{Face}
use Rattle.theory.specs.Match.{clash, lowest_of_lem, highest_of}
use Rattle.theory.specs.Read.{reading, whole}
use Rattle.theory.specs.Decode.{pattern_of, term_of}
use Rattle.theory.proofs.Decoding.{fine_over, pattern_is, heading_of_lem}
use Rattle.theory.proofs.Along.{Readable}
use Rattle.theory.proofs.Place.{clash_place}
use Rattle.meaning.specs.Limits.{set_words_lem, variable_count, span_width}
use Rattle.meaning.specs.File.{table_in}
use Rattle.table.specs.Sound.{table_of}
use Rattle.terms.specs.declared.asked.Asked.{Asked}
use Rattle.meaning.specs.Refusals.{SoundFile, table_rows, row5, row6, row7, row8, row9, row10}
use Rattle.meaning.specs.Packing.{order, packed_count, packed_spans, packed_sets}
use Rattle.meaning.specs.Calls.{Answer, refused, gives, Degrees, degrees, Matched, zeros, faces_in, input_rows, search_rows, match_call}
use Rattle.meaning.specs.Demands.{Accepted}
use Rattle.meaning.specs.Search.{unformed, worst}
use Rattle.meaning.proofs.First.{all_silent, append-none}
use Rattle.meaning.proofs.Sound.{sound}
use Rattle.meaning.proofs.Parts.{is_term_lem}
use Rattle.meaning.proofs.Compose.{by_search, by_answer}
use Rattle.meaning.proofs.Lacking.{Unclashed, unclashed, lacking-none, lacking_just, worst_top}
use Rattle.meaning.proofs.Lengths.{rooms8, packed_words}
use Rattle.meaning.proofs.NoOverlap.{packed_few_read}
use Rattle.meaning.proofs.Over.{over_front}
use Rattle.packing.specs.declared.Search.{Search}
use Rattle.packing.specs.Pack.{lacking_of, PackedAll}
use Rattle.matching.specs.Outcomes.{kept}
use Rattle.facing.proofs.Passing.{readable_asked}

-- ---- the least variable without a form, where the worst of them is this

-- LAW: there is one
one_lacks : (n v : ℕ) → lacking_of n ≡ Some v → (n ≡ v) × (n < variable_count)
one_lacks n v = go (ltb n variable_count) refl
  where
    go : (b : Bool) → ltb n variable_count ≡ b → cond b (Some n) None ≡ Some v → (n ≡ v) × (n < variable_count)
    go true e f = (cc, ltb-true n variable_count e)
    go false e f = absurd (cc)

-- LAW: there is none
none_lacks : (n : ℕ) → lacking_of n ≡ None → variable_count ≤ n
none_lacks n = go (ltb n variable_count) refl
  where
    go : (b : Bool) → ltb n variable_count ≡ b → cond b (Some n) None ≡ None → variable_count ≤ n
    go true e f = absurd (cc)
    go false e f = ltb-false n variable_count e

-- LAW: two results are the same where their parts are
pub same-matched : {a b : Answer Degrees} {s t u v : List ℕ} → a ≡ b → s ≡ t → u ≡ v
    → ◌≡◌ {A = Matched} (record { answer = a; spans = s; sets = u }) (record { answer = b; spans = t; sets = v })
same-matched p q r = cc

-- LAW: a list that is read whole has few nodes
pub read_few : (table : List ℕ) → SoundFile table → (vars : Bool) (xs : List ℕ) → reading (table_in table) vars xs ≡ whole → length xs ≤ 1024
read_few table s vars xs e = ((is_term_lem (table_in table) (omega (arith, (sound table s).small)) vars xs).0 e).1.nodes_at_most

-- LAW: the pattern has few nodes
pub pattern_few : (asked : Asked) → length asked.pattern.now ≤ 1024
pattern_few asked = read_few asked.table.file.now asked.table.sound true asked.pattern.now asked.pattern_reads

-- ---- what faces what

module _ (asked : Asked) where
  abbrev T : Table
  T = table_of asked.table

  abbrev pattern : List ℕ
  pattern = asked.pattern.now

  abbrev heading : List ℕ
  heading = asked.heading.now

  abbrev fs : List Face
  fs = faces_in asked.table.file.now pattern heading

  lists : Readable T pattern heading
  lists = readable_asked asked

  -- LAW: a clash has a small place
  pub clash_inside : (i : ℕ) → clash T asked.cut fs ≡ just i → i < 1024
  unfolding faces_in
  clash_inside i e =
      let p = pattern_is T lists.small pattern asked.pattern_reads in
      let t = heading_of_lem T lists.small heading asked.heading_reads in
      let l = (clash_place T lists.lawful asked.cut asked.some_cut (pattern_of T pattern) (term_of T heading) (fine_over T true (pattern_of T pattern) p.0) t.0 i e).0 in
      omega (arith, l, ap length p.1, pattern_few asked)

  unclashed_by : clash T asked.cut fs ≡ none → Unclashed T asked.cut (pattern_of T pattern) (term_of T heading)
  unfolding faces_in
  unclashed_by = unclashed lists asked.cut asked.some_cut

  -- LAW: what is packed is no more than the heading's nodes
  pub fits : clash T asked.cut fs ≡ none → packed_count fs ≤ length heading
  unfolding faces_in
  fits = packed_few_read lists asked.cut asked.some_cut

-- ---- how a search that was accepted ends

module _ (asked : Asked) (spans sets : List ℕ) (a : Accepted asked.table.file.now asked.pattern.now asked.heading.now asked.cut spans sets) where
  abbrev table : List ℕ
  table = asked.table.file.now

  abbrev faced : List Face
  faced = fs asked

  abbrev bad : ℕ
  bad = worst (unformed (T asked) asked.cut faced) (order faced)

  abbrev matched : Matched
  matched = match_call table (pattern asked) (heading asked) asked.cut spans sets

  -- refused so, with zeros in both buffers
  abbrev RefusedBy : ℕ → ℕ → Type 0
  RefusedBy n place = matched ≡ record { answer = refused n place; spans = zeros (length spans); sets = zeros (length sets) }

  -- LAW: what it has been lent
  pub rooms : (span_width * variable_count ≤ length spans) × (set_words_lem * length (heading asked) ≤ length sets)
  unfolding input_rows
  rooms =
      let rest = row5 asked.cut ∷ row6 (T asked) true (pattern asked) ∷ row7 (T asked) (heading asked) ∷ row8 (heading asked) spans sets ∷ [] in
      rooms8 (heading asked) spans sets (all_silent rest (append-none (table_rows table) rest a).1).1.1.1.0

  -- LAW: by a clash
  pub clash_ends : (i : ℕ) → clash (T asked) asked.cut faced ≡ just i → RefusedBy 9 i
  unfolding search_rows faces_in row9 row10
  clash_ends i e = by_search table (pattern asked) (heading asked) asked.cut spans sets 9 i a (rw e)

  module _ (e : clash (T asked) asked.cut faced ≡ none) where
    form_ends : bad < variable_count → RefusedBy 10 bad
    unfolding search_rows faces_in row9 row10
    form_ends l = by_search table (pattern asked) (heading asked) asked.cut spans sets 10 bad a (rw (e, lacking_just (unclashed_by asked e) l))

    answer_ends : variable_count ≤ bad → matched
        ≡ record {
          answer = gives (degrees (lowest_of_lem (T asked) asked.cut faced) (highest_of (T asked) asked.cut faced));
          spans = packed_spans (T asked) asked.cut faced ++ zeros (length spans - length (packed_spans (T asked) asked.cut faced));
          sets = packed_sets (T asked) asked.cut faced ++ zeros (length sets - length (packed_sets (T asked) asked.cut faced));
        }
    unfolding search_rows faces_in row9 row10
    answer_ends l =
        let all : bad ≡ variable_count = omega (arith, worst_top (unformed (T asked) asked.cut faced) (order faced)) in
        by_answer table (pattern asked) (heading asked) asked.cut spans sets a (rw (e, lacking-none (unclashed_by asked e) all))

    module _ (found : Search) (mid_spans mid_sets : List ℕ) (r : PackedAll (T asked) asked.cut faced found mid_spans sets mid_sets) where
      -- LAW: by a variable without a form
      pub lacks : (v : ℕ) → found.lacking ≡ Some v → RefusedBy 10 v
      lacks v e = let l = one_lacks bad v (inv r.lacking ∙ e) in rw (← l.0) (form_ends l.1)

      -- the words that are packed are those in front
      words-kept : take (set_words_lem * found.packed) mid_sets ≡ packed_sets (T asked) asked.cut faced
      words-kept =
          let words = packed_sets (T asked) asked.cut faced in
          ap (take (set_words_lem * found.packed)) (r.sets_are ∙ over_front sets words)
          ∙ take_at words (drop (length words) sets) (set_words_lem * found.packed) (omega (arith, packed_words (T asked) asked.cut faced, r.packed))

      -- LAW: or with what is packed
      pub keeps : found.lacking ≡ None → length mid_spans ≡ length spans → length mid_sets ≡ length sets → kept found mid_spans mid_sets ≡ matched
      keeps e p q =
          same-matched (ap₂ (λ low high. gives (degrees low high)) r.lowest r.highest) spans_kept (ap₂ (λ l n. l ++ zeros n) words-kept left)
          ∙ inv (answer_ends (none_lacks bad (inv r.lacking ∙ e)))
        where
          left : length mid_sets - set_words_lem * found.packed ≡ length sets - length (packed_sets (T asked) asked.cut faced)
          left = omega (arith, packed_words (T asked) asked.cut faced, r.packed, q)

          spans_kept : mid_spans ≡ packed_spans (T asked) asked.cut faced ++ zeros (length spans - length (packed_spans (T asked) asked.cut faced))
          spans_kept = r.spans_are ∙ ap (λ n. packed_spans (T asked) asked.cut faced ++ zeros (n - length (packed_spans (T asked) asked.cut faced))) p
