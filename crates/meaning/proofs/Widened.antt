-- What a match left in a table whose symbols all had room, widened set by set, is what it packs today: none of its sets has a symbol that had no room
-- (`set_small` of AsToday), so that the sets are those of `widened_sets`.
use mathlib.Core.Path.{◌≡◌, refl, sym as inv, ap, ap₂, ◌∙◌}
use mathlib.Core.List.{List, [], ◌∷◌, ◌++◌}
use Prim.Native.Nat.{ℕ, zero, suc, ◌-◌, ◌*◌, ◌%◌, ◌≤◌}
use native.Mathlib.Omega.{arith}
use lib.ListN.{length, drop, length-append, length-replicate}
use borrow.Author.Tests.{le-ltb, eq-eqb}
use Rattle.theory.specs.Table.{Table}
use Rattle.theory.specs.Least.{All}
use Rattle.theory.specs.Faces.{Face, facing}
use Rattle.theory.proofs.Lemmas.{all_append}
use Rattle.meaning.specs.Limits.{set_words_lem}
use Rattle.meaning.specs.File.{table_in}
use Rattle.meaning.specs.Refusals.{row8-output}
use Rattle.meaning.specs.Packing.{through, order, count_of, sets_of, all_words_by, all_words_lem, packed_count, packed_sets}
use Rattle.meaning.specs.Calls.{gives, Degrees, zeros, faces_in, matched, later_sets}
use Rattle.meaning.specs.Saved.{saved_words, saved_room, widened, row8-words, widen_rows, later_words, left_then}
use Rattle.meaning.proofs.Bits.{length-words_by, length-words}
use Rattle.meaning.proofs.Packing.{one}
use Rattle.meaning.proofs.Matched.{sets_are}
use Rattle.meaning.proofs.Spans.{answered_none}
use Rattle.meaning.proofs.Lengths.{length_sets, rooms}
use Rattle.meaning.proofs.AsToday.{Small, set_small, widened_sets}

module _ (T : Table) (small : T.size ≤ saved_room) (cut : ℕ) (fs : List Face) where
  through_small : (v n : ℕ) → All Small (through n (one T cut fs v))
  through_small v zero = tt
  through_small v (suc n) = all_append Small (through n (one T cut fs v)) (one T cut fs v n) (through_small v n) (set_small T small cut fs (facing v fs) n, tt)

  sets_small : (vs : List ℕ) → All Small (sets_of T cut fs vs)
  sets_small [] = tt
  sets_small (v ∷ vs) = all_append Small (through (count_of fs v) (one T cut fs v)) (sets_of T cut fs vs) (through_small v (count_of fs v)) (sets_small vs)

-- LAW: what a match left then, widened, is what it packs today, and zeros behind it
left_widened : (T : Table) → T.size ≤ saved_room → (cut : ℕ) (fs : List Face) (n : ℕ) → packed_count fs ≤ n
    → (length (left_then T cut fs n) ≡ saved_words * n) × (widened (left_then T cut fs n) ≡ packed_sets T cut fs ++ zeros (set_words_lem * n - length (packed_sets T cut fs)))
unfolding left_then packed_sets packed_count
left_widened T small cut fs n few =
    let all = sets_of T cut fs (order fs) in
    let filled = all_words_by saved_words all in
    let then : saved_words * n - length filled ≡ saved_words * (n - length all) = omega (arith, length-words_by saved_words (λ set. refl) all) in
    let now : set_words_lem * (n - length all) ≡ set_words_lem * n - length (all_words_lem all) = omega (arith, length-words all) in (
      omega (
        arith,
        length-append filled (zeros (saved_words * n - length filled)),
        length-replicate {A = ℕ} (saved_words * n - length filled) 0,
        length-words_by saved_words (λ set. refl) all,
        length_sets T cut fs (order fs),
      ),
      ap (λ k. widened (filled ++ zeros k)) then ∙ widened_sets all (sets_small T small cut fs (order fs)) (n - length all) ∙ ap (λ k. all_words_lem all ++ zeros k) now,
    )

module _ (table pattern heading : List ℕ) (cut : ℕ) (spans sets output : List ℕ) where
  -- THEOREM: a saved answer, converted, is the answer of today
  pub as_today : (table_in table).size ≤ saved_room → (d : Degrees) → matched table pattern heading cut spans sets ≡ gives d
      → (n : ℕ) → length sets ≡ set_words_lem * n → length sets ≤ length output
      → later_words (left_then (table_in table) cut (faces_in table pattern heading) n) output ≡ later_sets table pattern heading cut spans sets ++ drop (length sets) output
  unfolding later_words widen_rows row8-words row8-output faces_in
  as_today small d e n room long =
      let T = table_in table in
      let fs = faces_in table pattern heading in
      let q = answered_none table pattern heading cut spans sets d e in
      let few : packed_count fs ≤ n = omega (arith, (rooms table pattern heading cut spans sets q).1) in
      let l = left_widened T small cut fs n few in
      let words = left_then T cut fs n in
      let whole : length words % saved_words ≡ 0 = omega (arith, l.0) in
      let wide : 2 * length words ≡ length sets = omega (arith, l.0) in
      rw (eq-eqb (length words % saved_words) 0 whole, le-ltb (length output) (2 * length words) (omega arith))
      (ap₂ (λ front i. front ++ drop i output) (l.1 ∙ ap (λ k. packed_sets T cut fs ++ zeros (k - length (packed_sets T cut fs))) (inv room)) wide
      ∙ ap (λ front. front ++ drop (length sets) output) (inv (sets_are table pattern heading cut spans sets q)))
