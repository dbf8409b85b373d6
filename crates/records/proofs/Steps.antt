-- What the writer's steps come to: the records' numbers put one behind the other, and what the writer on numbers makes of them.
use mathlib.Core.Path.{◌≡◌, refl, sym, ap, ap₂, ◌∙◌}
use mathlib.Core.List.{List, [], ◌∷◌, ◌++◌}
use Prim.Native.Nat.{ℕ, ◌+◌, ◌*◌, ◌≤◌, ◌<◌}
use native.Mathlib.Numerals.{add-one}
use native.Mathlib.Nat.{zero-add}
use native.Mathlib.Omega.{arith}
use lib.ListN.{length, get_or, take}
use lib.Seq.{length-take-le, take-suc, take-length, take_at}
use Rattle.theory.specs.Pairs.{Pair as ListedPair, pair}
use Rattle.meaning.specs.Limits.{most_pairs}
use Rattle.meaning.specs.File.{numbers_of_lem}
use Rattle.meaning.specs.Over.{over}
use Rattle.meaning.proofs.Over.{over_then, over_front}
use Rattle.table.specs.Read.{pair_in}
use Rattle.table.specs.declared.read.Pair.{Pair}
use Rattle.writer.specs.Laid.{Laid}
use Rattle.records.specs.Records.{listed, none}
use Rattle.records.proofs.Listing.{length-listed, listed_at}

-- ---- the numbers of pairs

pub length-numbers_of : (ps : List ListedPair) → length (numbers_of_lem ps) ≡ 3 * length ps
unfolding numbers_of_lem
length-numbers_of [] = refl
length-numbers_of (pair l h d ∷ ps) = omega (arith, length-numbers_of ps)

numbers_of-append : (ps qs : List ListedPair) → numbers_of_lem (ps ++ qs) ≡ numbers_of_lem ps ++ numbers_of_lem qs
unfolding numbers_of_lem
numbers_of-append [] qs = refl
numbers_of-append (pair l h d ∷ ps) qs = ap (λ ns. l ∷ h ∷ d ∷ ns) (numbers_of-append ps qs)

-- ---- one record more

module _ (records : List Pair) (k : ℕ) (inside : k < length records) where
  abbrev next : Pair
  next = get_or records k none

  three_more : numbers_of_lem (take k (listed records)) ++ (next.lower ∷ next.higher ∷ next.degree ∷ []) ≡ numbers_of_lem (take (k + 1) (listed records))
  unfolding numbers_of_lem
  three_more =
      let ps = listed records in
      sym (numbers_of-append (take k ps) (pair_in next ∷ []))
      ∙ ap (λ p. numbers_of_lem (take k ps ++ (p ∷ []))) (sym (listed_at records k))
      ∙ ap numbers_of_lem (sym (take-suc ps k (pair 0 0 0) (omega (arith, length-listed records))) ∙ ap (λ i. take i ps) (sym (add-one k)))

  pub record_put : (out : List ℕ) → 3 * k ≤ length out → {mid end : List ℕ} → mid ≡ over out 0 (numbers_of_lem (take k (listed records)))
      → end ≡ over mid (3 * k) (next.lower ∷ next.higher ∷ next.degree ∷ []) → end ≡ over out 0 (numbers_of_lem (take (k + 1) (listed records)))
  record_put out room {mid} e f =
      let three = next.lower ∷ next.higher ∷ next.degree ∷ [] in
      let laid = numbers_of_lem (take k (listed records)) in
      let n : length laid ≡ 3 * k = omega (arith, length-numbers_of (take k (listed records)), length-take-le k (listed records) (omega (arith, length-listed records))) in
      f
      ∙ ap₂ (λ m i. over m i three) e (sym (zero-add (3 * k)))
      ∙ over_then out 0 laid (3 * k) three n (omega arith)
      ∙ ap (over out 0) three_more

-- ---- all of them

-- LAW: where all records are copied, the numbers begin with theirs
pub all_laid : (records : List Pair) (out : List ℕ) (count : ℕ) → (3 * length records ≤ length out → count ≡ length records) → (numbers : List ℕ)
    → numbers ≡ over out 0 (numbers_of_lem (take count (listed records))) → (length (listed records) ≤ most_pairs → 3 * length records ≤ length out) → Laid numbers (listed records)
all_laid records out count all numbers e room few =
    let n : count ≡ length (listed records) = omega (arith, all (room few), length-listed records) in
    let laid : numbers ≡ over out 0 (numbers_of_lem (listed records)) = e ∙ ap (λ ps. over out 0 (numbers_of_lem ps)) (ap (λ i. take i (listed records)) n ∙ take-length (listed records)) in
    ap (take (3 * length (listed records))) (laid ∙ over_front out (numbers_of_lem (listed records))) ∙ take_at (numbers_of_lem (listed records)) _ (3 * length (listed records)) (length-numbers_of (listed records))
