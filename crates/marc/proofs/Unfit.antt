-- 19 in words: a test that says whether an entry may be listed passes the first entry that may not.
use mathlib.Core.Path.{◌≡◌, refl, sym as inv, ap, ◌∙◌}
use mathlib.Core.Logic.{◌↔◌, ◌⊎◌, inl, inr}
use mathlib.Core.List.{List}
use mathlib.Core.Bool.{Bool, true, false, false≢true}
use mathlib.Core.Option.{some as just}
use Prim.Native.Nat.{ℕ, zero, suc, ◌<◌}
use native.Mathlib.Omega.{arith}
use lib.Dec.{eqb}
use lib.ListN.{length}
use borrow.Author.Tests.{eqb-true, eq-eqb}
use Rattle.theory.specs.Least.{some}
use Rattle.theory.proofs.Lemmas.{or_left, or_right, some_of, least_just}
use Rattle.theory.proofs.Verdict.{or_cases}
use Rattle.meaning.specs.Refusals.{row, row_place}
use Rattle.meaning.proofs.First.{none_below, least_at}
use Rattle.marc.specs.Known.{Known, string_of, number_of, entry_of, same, listed_before, bad_entry_lem, row19}
use Rattle.marc.specs.Reading.{Unfit, FirstUnfit}
use Rattle.marc.proofs.Strings.{same_true, true_same}
use Rattle.marc.proofs.Places.{least_inside}

-- some number below n passes
pub some_below : (n : ℕ) (b : ℕ → Bool) → some n b ≡ true → (i : ℕ) × (i < n) × (b i ≡ true)
some_below zero b e = absurd (false≢true e)
some_below (suc n) b e = go (or_cases (b n) (some n b) e) (some_below n b)
  where
    go : (b n ≡ true) ⊎ (some n b ≡ true) → (some n b ≡ true → (i : ℕ) × (i < n) × (b i ≡ true)) → (i : ℕ) × (i < suc n) × (b i ≡ true)
    go (inl p) rest = (n, omega arith, p)
    go (inr p) rest = let r = rest p in (r.0, omega (arith, r.1), r.2)

module _ (ks : List Known) (absent : ℕ) where
  -- LAW: the test says so
  bad_unfit : (j : ℕ) → bad_entry_lem ks absent j ≡ true → Unfit ks absent j
  bad_unfit j e = go (or_cases (listed_before ks j) (eqb (number_of (entry_of ks j)) absent) e)
    where
      go : (listed_before ks j ≡ true) ⊎ (eqb (number_of (entry_of ks j)) absent ≡ true) → Unfit ks absent j
      go (inl p) =
          let r = some_below j (λ i. same (string_of (entry_of ks i)) (string_of (entry_of ks j))) p in
          inl (r.0, r.1, same_true (string_of (entry_of ks r.0)) (string_of (entry_of ks j)) r.2)
      go (inr p) = inr (eqb-true (number_of (entry_of ks j)) absent p)

  unfit_bad : (j : ℕ) → Unfit ks absent j → bad_entry_lem ks absent j ≡ true
  unfit_bad j (inl (i, l, e)) =
      or_left (listed_before ks j) (eqb (number_of (entry_of ks j)) absent)
      (some_of j (λ i. same (string_of (entry_of ks i)) (string_of (entry_of ks j))) i l (true_same (string_of (entry_of ks i)) (string_of (entry_of ks j)) e))
  unfit_bad j (inr e) = or_right (listed_before ks j) (eqb (number_of (entry_of ks j)) absent) (eq-eqb (number_of (entry_of ks j)) absent e)

  not_bad : (j : ℕ) → (Unfit ks absent j → ⊥) → bad_entry_lem ks absent j ≡ false
  not_bad j n = go (bad_entry_lem ks absent j) refl
    where
      go : (b : Bool) → bad_entry_lem ks absent j ≡ b → bad_entry_lem ks absent j ≡ false
      go true e = absurd (n (bad_unfit j e))
      go false e = e

  -- THEOREM: 19 is at the first entry that may not be listed
  pub first_unfit : (place : ℕ) → row19 ks absent ≡ row 19 (just place) ↔ FirstUnfit ks absent place
  unfolding row19
  first_unfit place = (there, back)
    where
      there : row19 ks absent ≡ row 19 (just place) → FirstUnfit ks absent place
      there e =
          let q = ap row_place e in
          let l = least_just (length ks) (bad_entry_lem ks absent) place q in
          record {
            inside = least_inside (bad_entry_lem ks absent) (length ks) place q;
            unfit = bad_unfit place l.passes;
            none_before = λ k m u. false≢true (inv (l.least k m) ∙ unfit_bad k u);
          }

      back : FirstUnfit ks absent place → row19 ks absent ≡ row 19 (just place)
      back f =
          ap (row 19)
          (least_at (bad_entry_lem ks absent) place (length ks) (none_below (bad_entry_lem ks absent) place (λ k m. not_bad k (f.none_before k m))) (unfit_bad place f.unfit) f.inside)
