-- What the statements leave open of the match: nothing. A refusal fixes both buffers. Of an answer, demand 2 fixes the degrees, and by any one matcher
-- the counts of positions; the order of packing then fixes the starts, the sentences on each variable its own degrees, the sentence on sets every bit
-- at a variable's position, and all other words are 0.
use mathlib.Core.Path.{◌≡◌, refl, sym as inv, ap, ap₂, ◌∙◌}
use mathlib.Core.Logic.{◌⊎◌, inl, inr}
use mathlib.Core.List.{List}
use mathlib.Core.Bool.{Bool, true, false, ◌&&◌, false≢true}
use mathlib.Core.Option.{Option, none, some as just}
use Prim.Native.Nat.{ℕ, zero, suc, ◌+◌, ◌*◌, ◌-◌, ◌/◌, ◌%◌, ◌^◌, ◌≤◌, ◌<◌}
use native.Mathlib.Decide.{dec_lt}
use native.Mathlib.Omega.{arith}
use lib.Dec.{ltb, leb}
use lib.Seq.{ext_get_or}
use lib.ListN.{get_or}
use borrow.Author.Tests.{le-leb, lt-ltb, leb-true, ltb-true}
use Rattle.theory.specs.Tree.{Term, Pattern, stands}
use Rattle.theory.specs.Table.{Table}
use Rattle.theory.proofs.Lemmas.{and_true, and_left, and_right}
use Rattle.theory.proofs.Corollaries.{one_lowest, one_highest}
use Rattle.theory.proofs.Own.{one_lowest_for, one_highest_for}
use Rattle.sets.proofs.Word.{word_is}
use Rattle.meaning.specs.Limits.{word_bits, set_words_lem, set_room, variable_count, span_width}
use Rattle.meaning.specs.File.{table_in}
use Rattle.meaning.specs.Refusals.{Refusal, refusal, first}
use Rattle.meaning.specs.Calls.{refused, gives, degrees, Matched, input_rows, search_rows, match_rows}
use Rattle.meaning.specs.Buffers.{first_position_lem, position_count_lem, own_lowest_lem, own_highest_lem, bit, holds}
use Rattle.meaning.specs.Demands.{Accepted, Found}
use Rattle.meaning.specs.Matching.{InSpan, Leaves}
use Rattle.meaning.proofs.First.{append-none}
use Rattle.meaning.proofs.Wrong.{aligned, found_given}
use Rattle.demands.specs.Demand3.{DrawnBy}
use Rattle.demands.specs.Further.{MatchSays}
use Rattle.demands.proofs.Exact.{by_refusal, by_none}
use Rattle.demands.proofs.Settled.{find}
use Rattle.demands.proofs.Stated.{Stated}
use Rattle.demands.proofs.PackedAlike.{counts_alike, starts_alike}

-- ---- two answers to one question

-- words of equal bits are equal
same_word : (a b : ℕ) → a < 2 ^ word_bits → b < 2 ^ word_bits → ((i : ℕ) → i < word_bits → bit i a ≡ bit i b) → a ≡ b
same_word a b la lb e = word_is (λ i. bit i b) 0 word_bits a la (λ i l. e i l ∙ ap (λ k. bit k b) (omega arith)) ∙ inv (word_is (λ i. bit i b) 0 word_bits b lb (λ i l. ap (λ k. bit k b) (omega arith)))

same_bool : (a b : Bool) → (a ≡ true → b ≡ true) → (b ≡ true → a ≡ true) → a ≡ b
same_bool true b f g = inv (f refl)
same_bool false true f g = g refl
same_bool false false f g = refl

module _ (T : Table) (cut : ℕ) (p : Pattern) (h : Term) (pattern spans sets : List ℕ) (r s : Matched) (fr : Found T cut p h r) (fs : Found T cut p h s)
    (mr : MatchSays T cut p h pattern r) (ms : MatchSays T cut p h pattern s) (lr : Leaves spans sets r) (ls : Leaves spans sets s) where
  pub answers : r.answer ≡ s.answer
  answers =
      fr.answered
      ∙ ap₂ (λ l g. gives (degrees l g)) (one_lowest T cut p h _ _ fr.is_lowest fs.is_lowest) (one_highest T cut p h _ _ fr.is_highest fs.is_highest)
      ∙ inv fs.answered

  -- numbers past the spans
  past : (i : ℕ) → span_width * variable_count ≤ i → get_or r.spans i 0 ≡ get_or s.spans i 0
  past i l = lr.other_spans _ fr.answered i l ∙ inv (ls.other_spans _ fs.answered i l)

  -- a substitution that can be drawn from both
  abbrev σ : ℕ → Term
  σ = fr.is_lowest.reached.0

  in_r : DrawnBy T p r σ
  in_r = (fr.matchers σ).0 fr.is_lowest.reached.1

  in_s : DrawnBy T p s σ
  in_s = (fs.matchers σ).0 fr.is_lowest.reached.1

  counts : (v : ℕ) → position_count_lem r.spans v ≡ position_count_lem s.spans v
  counts = counts_alike T T p r s σ in_r in_s (mr.packed _ fr.answered) (ms.packed _ fs.answered) past

  starts : (v : ℕ) → first_position_lem r.spans v ≡ first_position_lem s.spans v
  starts = starts_alike T T p r s σ in_r in_s (mr.packed _ fr.answered) (ms.packed _ fs.answered) past

  own_lowest_lem-is : (v : ℕ) → own_lowest_lem r.spans v ≡ own_lowest_lem s.spans v
  own_lowest_lem-is v = go (dec_lt v variable_count) (stands v p) refl
    where
      go : Dec (v < variable_count) → (b : Bool) → stands v p ≡ b → own_lowest_lem r.spans v ≡ own_lowest_lem s.spans v
      go (no m) b e = past (span_width * v + 2) (omega arith)
      go (yes l) true e =
          one_lowest_for T cut p h v _ _ ((mr.own_degrees _ _ fr.answered).own_lowest_lem-is v e) ((ms.own_degrees _ _ fs.answered).own_lowest_lem-is v e)
      go (yes l) false e = ((mr.packed _ fr.answered).absent v l e).2 ∙ inv ((ms.packed _ fs.answered).absent v l e).2

  own_highest_lem-is : (v : ℕ) → own_highest_lem r.spans v ≡ own_highest_lem s.spans v
  own_highest_lem-is v = go (dec_lt v variable_count) (stands v p) refl
    where
      go : Dec (v < variable_count) → (b : Bool) → stands v p ≡ b → own_highest_lem r.spans v ≡ own_highest_lem s.spans v
      go (no m) b e = past (span_width * v + 3) (omega arith)
      go (yes l) true e =
          one_highest_for T cut p h v _ _ ((mr.own_degrees _ _ fr.answered).own_highest_lem-is v e) ((ms.own_degrees _ _ fs.answered).own_highest_lem-is v e)
      go (yes l) false e = ((mr.packed _ fr.answered).absent v l e).3 ∙ inv ((ms.packed _ fs.answered).absent v l e).3

  pub span_numbers : (i : ℕ) → get_or r.spans i 0 ≡ get_or s.spans i 0
  span_numbers i = go (i % span_width) refl
    where
      go : (j : ℕ) → i % span_width ≡ j → get_or r.spans i 0 ≡ get_or s.spans i 0
      go zero e = let q : i ≡ span_width * (i / span_width) = omega arith in rw q (starts (i / span_width))
      go (suc zero) e = let q : i ≡ span_width * (i / span_width) + 1 = omega arith in rw q (counts (i / span_width))
      go (suc (suc zero)) e = let q : i ≡ span_width * (i / span_width) + 2 = omega arith in rw q (own_lowest_lem-is (i / span_width))
      go (suc (suc (suc zero))) e = let q : i ≡ span_width * (i / span_width) + 3 = omega arith in rw q (own_highest_lem-is (i / span_width))
      go (suc (suc (suc (suc j)))) e = absurd (omega arith)

  -- ---- the sets

  -- variable v has the position, as a test
  has : ℕ → ℕ → Bool
  has position v = leb (first_position_lem r.spans v) position && ltb position (first_position_lem r.spans v + position_count_lem r.spans v)

  in_span : (position v : ℕ) → has position v ≡ true → InSpan r.spans v position
  unfolding has
  in_span position v e =
      let a = leb (first_position_lem r.spans v) position in
      let b = ltb position (first_position_lem r.spans v + position_count_lem r.spans v) in
      (leb-true _ _ (and_left a b e), ltb-true _ _ (and_right a b e))

  no_span : (position v : ℕ) → has position v ≡ false → InSpan r.spans v position → ⊥
  unfolding has
  no_span position v e i = false≢true (inv e ∙ and_true _ _ (le-leb _ _ i.0) (lt-ltb _ _ i.1))

  -- at a position of a variable both sets have the same symbols
  same-holds : (position v : ℕ) → v < variable_count → InSpan r.spans v position → (x : ℕ) → x < set_room → holds r.sets position x ≡ holds s.sets position x
  same-holds position v l i x m = go (position - first_position_lem r.spans v) (omega (arith, i.0)) (omega (arith, i.0, starts v)) (stands v p) refl
    where
      go : (k : ℕ) → first_position_lem r.spans v + k ≡ position → first_position_lem s.spans v + k ≡ position → (b : Bool) → stands v p ≡ b
          → holds r.sets position x ≡ holds s.sets position x
      go k at-r at-s false e = absurd (omega (arith, i.0, i.1, ((mr.packed _ fr.answered).absent v l e).1))
      go k at-r at-s true e =
          let one = (mr.sets_and_degrees _ _ fr.answered).sets v e k (omega (arith, at-r, i.1)) x m in
          let two = (ms.sets_and_degrees _ _ fs.answered).sets v e k (omega (arith, at-r, i.1, counts v)) x m in
          ap (λ q. holds r.sets q x) (inv at-r)
          ∙ same_bool _ _ (λ q. two.1 (one.0 q)) (λ q. one.1 (two.0 q))
          ∙ ap (λ q. holds s.sets q x) at-s

  pub set_words : (i : ℕ) → get_or r.sets i 0 ≡ get_or s.sets i 0
  unfolding holds
  set_words i = go (find variable_count (has (i / set_words_lem)))
    where
      -- bit j of the word is one symbol's
      same_bit : (v : ℕ) → v < variable_count → has (i / set_words_lem) v ≡ true → (j : ℕ) → j < word_bits → bit j (get_or r.sets i 0) ≡ bit j (get_or s.sets i 0)
      same_bit v l t j m =
          let x = word_bits * (i % set_words_lem) + j in
          let w : set_words_lem * (i / set_words_lem) + x / word_bits ≡ i = omega arith in
          let b : x % word_bits ≡ j = omega arith in
          let q : bit (x % word_bits) (get_or r.sets (set_words_lem * (i / set_words_lem) + x / word_bits) 0) ≡ bit (x % word_bits) (get_or s.sets (set_words_lem * (i / set_words_lem) + x / word_bits) 0)
          = same-holds (i / set_words_lem) v l (in_span (i / set_words_lem) v t) x (omega arith) in
          rw (w, b) at q

      go : ((v : ℕ) × (v < variable_count) × (has (i / set_words_lem) v ≡ true)) ⊎ ((v : ℕ) → v < variable_count → has (i / set_words_lem) v ≡ false) → get_or r.sets i 0 ≡ get_or s.sets i 0
      go (inl f) = same_word _ _ (lr.words_fit _ fr.answered i) (ls.words_fit _ fs.answered i) (same_bit f.0 f.1 f.2)
      go (inr f) =
          lr.other_sets _ fr.answered i (λ v l q. no_span (i / set_words_lem) v (f v l) q)
          ∙ inv (ls.other_sets _ fs.answered i (λ v l q. no_span (i / set_words_lem) v (f v l) (omega (arith, starts v, q.0), omega (arith, starts v, counts v, q.1))))

-- ---- two results of one call

pub record Same (r s : Matched) : Type 0 where
  pub answer : r.answer ≡ s.answer
  pub spans : r.spans ≡ s.spans
  pub sets : r.sets ≡ s.sets

module _ (table pattern heading : List ℕ) (cut : ℕ) (spans sets : List ℕ) (r s : Matched) (x : Stated table pattern heading cut spans sets r) (y : Stated table pattern heading cut spans sets s) where
  refused_same : (n place : ℕ) → first (match_rows table pattern heading cut spans sets) ≡ just (refusal n place) → Same r s
  refused_same n place q = go (dec_lt 8 n)
    where
      er : r.answer ≡ refused n place
      er = by_refusal (match_rows table pattern heading cut spans sets) r.answer x.exactly n place q

      es : s.answer ≡ refused n place
      es = by_refusal (match_rows table pattern heading cut spans sets) s.answer y.exactly n place q

      go : Dec (8 < n) → Same r s
      go (yes l) =
          let a = x.leaves.cleared n place er l in
          let b = y.leaves.cleared n place es l in
          record { answer = er ∙ inv es; spans = a.0 ∙ inv b.0; sets = a.1 ∙ inv b.1 }
      go (no m) =
          let a = x.leaves.unchanged n place er (omega arith) in
          let b = y.leaves.unchanged n place es (omega arith) in
          record { answer = er ∙ inv es; spans = a.0 ∙ inv b.0; sets = a.1 ∙ inv b.1 }

  answered_same : first (match_rows table pattern heading cut spans sets) ≡ none → Same r s
  unfolding match_rows
  answered_same q =
      let T = table_in table in
      let a : Accepted table pattern heading cut spans sets = (append-none (input_rows table pattern heading cut spans sets) (search_rows table pattern heading cut) q).0 in
      let m = x.decided a in
      let n = y.decided a in
      let gr = by_none (match_rows table pattern heading cut spans sets) r.answer x.exactly q in
      let gs = by_none (match_rows table pattern heading cut spans sets) s.answer y.exactly q in
      let fr = found_given T cut n.p n.h r (aligned table pattern heading cut cut r s m n) gr.0 gr.1 in
      let fs = found_given T cut n.p n.h s n.decides gs.0 gs.1 in
      let mr = x.says a n.p n.writes_pattern.holds n.h n.writes_heading.holds in
      let ms = y.says a n.p n.writes_pattern.holds n.h n.writes_heading.holds in
      record {
        answer = answers T cut n.p n.h pattern spans sets r s fr fs mr ms x.leaves y.leaves;
        spans = ext_get_or 0 r.spans s.spans (x.spans_long ∙ inv y.spans_long) (λ i l. span_numbers T cut n.p n.h pattern spans sets r s fr fs mr ms x.leaves y.leaves i);
        sets = ext_get_or 0 r.sets s.sets (x.sets_long ∙ inv y.sets_long) (λ i l. set_words T cut n.p n.h pattern spans sets r s fr fs mr ms x.leaves y.leaves i);
      }

  -- THEOREM: two results of which the same is stated are equal
  pub same_match : r ≡ s
  same_match = let q = go (first (match_rows table pattern heading cut spans sets)) refl in λ i. record { answer = q.answer i; spans = q.spans i; sets = q.sets i }
    where
      go : (o : Option Refusal) → first (match_rows table pattern heading cut spans sets) ≡ o → Same r s
      go none q = answered_same q
      go (just (refusal n place)) q = refused_same n place q
