-- Why the heading has room for what is packed. Where nothing clashes, what faces the pattern's nodes is the heading, one behind the other
-- (`taken_all` of the theory); and each variable is counted once, by the first subterm that it faces.
use mathlib.Core.Path.{◌≡◌, refl, sym as inv, ap, ap₂}
use mathlib.Core.List.{List, [], ◌∷◌}
use mathlib.Core.Bool.{Bool, true, false, cond}
use mathlib.Core.Option.{Option, none, some as just}
use Prim.Native.Nat.{ℕ, ◌+◌, ◌≤◌, ◌<◌}
use native.Mathlib.Omega.{arith}
use lib.Dec.{eqb}
use lib.ListN.{length, length-append}
use borrow.Author.Tests.{eqb-false, eq-eqb, ne_eqb}
use Rattle.theory.specs.Tree.{Term, Pattern, enc}
use Rattle.theory.specs.Table.{Table, Lawful}
use Rattle.theory.specs.Faces.{Face, meets, binds, faces, taken}
use Rattle.theory.specs.Match.{size, clash}
use Rattle.theory.specs.Decode.{pattern_of, term_of}
use Rattle.theory.proofs.Matchers.{none_clear}
use Rattle.theory.proofs.Taken.{taken_all}
use Rattle.theory.proofs.Along.{Readable, all_faces}
use Rattle.theory.proofs.Decoding.{fine_over, pattern_is, heading_of_lem}
use Rattle.meaning.specs.File.{table_in}
use Rattle.meaning.specs.Refusals.{first, row9}
use Rattle.meaning.specs.Packing.{variables, without, firsts, order, count_of, sum, packed_count, among}
use Rattle.meaning.specs.Calls.{refused, search_rows, match_rows, matched, later_spans, match_call}
use Rattle.meaning.specs.Buffers.{position_count_lem}
use Rattle.meaning.specs.Demands.{WritesTerm, WritesPattern, Accepted}
use Rattle.meaning.specs.Matching.{standing, NoOverlap}
use Rattle.meaning.proofs.Compose.{by_search}
use Rattle.meaning.proofs.Matched.{Ready, ready, given_none, match_ends}
use Rattle.meaning.proofs.Spans.{among_more, answered_none, packed_read, in_order}

-- ---- on faces

sum_more : (f g : ℕ → ℕ) → (w : ℕ) → ((v : ℕ) → eqb w v ≡ false → f v ≡ g v) → (xs : List ℕ) → sum f (without w xs) ≤ sum g xs
sum_more f g w h [] = omega arith
sum_more f g w h (x ∷ xs) = go (eqb w x) refl (sum_more f g w h xs)
  where
    go : (b : Bool) → eqb w x ≡ b → sum f (without w xs) ≤ sum g xs → sum f (cond b (without w xs) (x ∷ without w xs)) ≤ g x + sum g xs
    go true e l = omega arith
    go false e l = omega (arith, h x e)

count_other : (w : ℕ) (t : Term) (fs : List Face) (v : ℕ) → eqb w v ≡ false → count_of (binds w t ∷ fs) v ≡ count_of fs v
count_other w t fs v e = rw (ne_eqb v w (λ q. eqb-false w v e (inv q)))

packed_taken : (fs : List Face) → packed_count fs ≤ length (taken fs)
unfolding packed_count
packed_taken [] = omega arith
packed_taken (meets f g ∷ fs) = omega (arith, packed_taken fs)
packed_taken (binds w t ∷ fs) =
    let s : count_of (binds w t ∷ fs) w ≡ size t = rw (eq-eqb w w refl) in
    omega (
      arith,
      s,
      sum_more (count_of (binds w t ∷ fs)) (count_of fs) w (count_other w t fs) (firsts (variables fs)),
      packed_taken fs,
      length-append (enc t) (taken fs),
    )

-- ---- on lists

module _ {T : Table} (L : Lawful T) {cut : ℕ} (pos : 0 < cut) {pattern heading : List ℕ} {p : Pattern} {h : Term}
    (wp : WritesPattern T pattern p) (wh : WritesTerm T heading h) (clear : clash T cut (faces p h) ≡ none) where
  -- LAW: what faces the pattern's nodes is the heading
  pub all_taken : taken (faces p h) ≡ enc h
  all_taken = taken_all T L cut pos p h (fine_over T true p wp.fine) wh.over (none_clear T cut (faces p h) clear)

  -- LAW: what is packed is no more than the heading's nodes
  pub packed_few : packed_count (faces p h) ≤ length heading
  packed_few = omega (arith, packed_taken (faces p h), ap length all_taken, ap length wh.is)

-- LAW: the same of lists that are read whole
pub packed_few_read : {T : Table} {xs ys : List ℕ} → Readable T xs ys → (c : ℕ) → 0 < c → clash T c (all_faces T xs ys) ≡ none → packed_count (all_faces T xs ys) ≤ length ys
packed_few_read {T} {xs} {ys} r c pos clear =
    let p = pattern_is T r.small xs r.pattern_reads in
    let h = heading_of_lem T r.small ys r.heading_reads in
    let wp : WritesPattern T xs (pattern_of T xs) = record { fine = p.0; is = p.1 } in
    let wh : WritesTerm T ys (term_of T ys) = record { over = h.0; is = h.1 } in
    packed_few r.lawful pos wp wh clear

-- ---- on what is lent

module _ (table pattern heading : List ℕ) (cut : ℕ) (spans sets : List ℕ) (a : Accepted table pattern heading cut spans sets) where
  abbrev fs : List Face
  fs = all_faces (table_in table) pattern heading

  r : Ready table pattern heading cut
  r = ready table pattern heading cut spans sets a

  -- where the match tells of no clash there is none
  apart : ((i : ℕ) → matched table pattern heading cut spans sets ≡ refused 9 i → ⊥) → taken fs ≡ enc (term_of (table_in table) heading)
  unfolding search_rows row9
  apart unclashed = go (clash (table_in table) cut fs) refl
    where
      go : (o : Option ℕ) → clash (table_in table) cut fs ≡ o → taken fs ≡ enc (term_of (table_in table) heading)
      go (just i) e = absurd (unclashed i (ap (λ m. m.answer) (by_search table pattern heading cut spans sets 9 i a (rw e))))
      go none e = all_taken r.lawful r.positive r.pattern_is.holds r.heading_is.holds e

  module _ (e : first (match_rows table pattern heading cut spans sets) ≡ none) where
    clear : clash (table_in table) cut fs ≡ none
    clear = (given_none _ _ _ (match_ends table pattern heading cut spans sets a r) e).0.clear

    -- LAW: what an answered match packs is no more than the heading's nodes
    pub answered_few : packed_count fs ≤ length heading
    answered_few = packed_few r.lawful r.positive r.pattern_is.holds r.heading_is.holds clear

    -- the counts that one reads in the spans
    counts : (vs : List ℕ) → ((w : ℕ) → among w vs ≡ true → among w (order fs) ≡ true)
        → sum (position_count_lem (later_spans table pattern heading cut spans sets)) vs ≡ sum (count_of fs) vs
    counts [] i = refl
    counts (v ∷ vs) i =
        ap₂ (λ m n. m + n) (packed_read table pattern heading cut spans sets e v (i v (rw (eq-eqb v v refl)))).1 (counts vs (λ w m. i w (among_more w v vs m)))

    few : sum (position_count_lem (later_spans table pattern heading cut spans sets)) (firsts (standing (pattern_of (table_in table) pattern))) ≤ size (term_of (table_in table) heading)
    unfolding packed_count
    few =
        rw (← in_order table pattern heading cut spans sets e)
        (omega (arith, counts (order fs) (λ w m. m), answered_few, ap length r.heading_is.holds.is))

  -- THEOREM: subterms that face different nodes never overlap, and what is packed fits
  pub no_overlap : NoOverlap (pattern_of (table_in table) pattern) (term_of (table_in table) heading) (match_call table pattern heading cut spans sets)
  no_overlap = record { apart = apart; fits = λ d g. few (answered_none table pattern heading cut spans sets d g) }
