-- 19 by the lent lists: the first entry that is bad. Where the strings rise none was listed before, so that only the numbers are to be tested.
use mathlib.Core.Path.{◌≡◌, refl, ap, ap₂, ◌∙◌}
use mathlib.Core.List.{List}
use mathlib.Core.Bool.{Bool, true, ◌||◌}
use Prim.Native.Nat.{ℕ, zero, suc, ◌-◌, ◌<◌}
use native.Mathlib.Omega.{arith}
use lib.Dec.{eqb}
use lib.ListN.{length, get_or, take}
use Rattle.std.proofs.lemmas.List.{get_or-take, length-take-le}
use Rattle.std.specs.List.{AllWithin, range_with_len}
use Rattle.std.proofs.lemmas.List.FromFn.{length-range_with_len, get_or-range_with_len}
use Rattle.theory.specs.Least.{some, least_below}
use Rattle.meaning.specs.Refusals.{row}
use Rattle.marc.specs.Known.{same, string_of, number_of, entry_of, known_in, bad_entry_lem, row19}
use Rattle.marc.specs.Order.{before}
use Rattle.marc.proofs.Order.{none_twice}
use Rattle.known_strings.specs.Lent.{string_in, RisesTo, bad_in}
use Rattle.known_strings.proofs.Entries.{counted, string_is, number_is}

-- ---- tests that say the same of each number below n

some_same : (n : ℕ) (b c : ℕ → Bool) → ((i : ℕ) → i < n → b i ≡ c i) → some n b ≡ some n c
some_same zero b c h = refl
some_same (suc n) b c h = ap₂ ◌||◌ (h n (omega arith)) (some_same n b c (λ i l. h i (omega arith)))

least-same : (n : ℕ) (b c : ℕ → Bool) → ((i : ℕ) → i < n → b i ≡ c i) → least_below n b ≡ least_below n c
least-same zero b c h = refl
least-same (suc n) b c h = rw (h n (omega arith), least-same n b c (λ i l. h i (omega arith)))

-- ---- the list

module _ (text ends numbers : List ℕ) (absent n : ℕ) (count : length (known_in text ends numbers) ≡ n) where
  string_of_lem : (i : ℕ) → i < n → string_of (entry_of (known_in text ends numbers) i) ≡ string_in text ends i
  string_of_lem i m = let q = counted text ends numbers in string_is text ends numbers i (omega (arith, q)) (omega (arith, q))

  number_of_lem : (i : ℕ) → i < n → number_of (entry_of (known_in text ends numbers) i) ≡ get_or numbers i 0
  number_of_lem i m = let q = counted text ends numbers in number_is text ends numbers i (omega (arith, q)) (omega (arith, q))

  one_is : (j : ℕ) → j < n → bad_entry_lem (known_in text ends numbers) absent j ≡ bad_in text ends numbers absent j
  one_is j l =
      let ks = known_in text ends numbers in
      let before = some_same j (λ i. same (string_of (entry_of ks i)) (string_of (entry_of ks j))) (λ i. same (string_in text ends i) (string_in text ends j)) in
      ap₂ ◌||◌ (before (λ i m. ap₂ same (string_of_lem i (omega arith)) (string_of_lem j l)))
      (ap (λ m. eqb m absent) (number_of_lem j l))

  -- LAW: the first entry that is bad
  pub bad_is : row19 (known_in text ends numbers) absent ≡ row 19 (least_below n (bad_in text ends numbers absent))
  unfolding row19
  bad_is = ap (row 19) (ap (λ n. least_below n (bad_entry_lem (known_in text ends numbers) absent)) count ∙ least-same n (bad_entry_lem (known_in text ends numbers) absent) (bad_in text ends numbers absent) one_is)

  -- LAW: where the strings rise, the first number that is that of absent dates
  pub absent_is : RisesTo text ends n → row19 (known_in text ends numbers) absent ≡ row 19 (least_below (length (take n numbers)) (λ j. eqb (get_or (take n numbers) j 0) absent))
  absent_is rising = bad_is ∙ ap (row 19) (rw all (least-same n (bad_in text ends numbers absent) (λ j. eqb (get_or (take n numbers) j 0) absent) number_alone))
    where
      all : length (take n numbers) ≡ n
      all = length-take-le n numbers (omega (arith, counted text ends numbers))

      number_alone : (j : ℕ) → j < n → bad_in text ends numbers absent j ≡ eqb (get_or (take n numbers) j 0) absent
      number_alone j l = rw (none_twice (string_in text ends) n rising j l, get_or-take n numbers j 0 l)

-- LAW: .. which they do where each but the first was held against the one before it
pub rising_from : (text ends : List ℕ) (n : ℕ) → AllWithin (λ x. before (string_in text ends (x - 1)) (string_in text ends x) ≡ true) (range_with_len 1 (n - 1)) 0 (length (range_with_len 1 (n - 1)))
    → RisesTo text ends n
rising_from text ends n h j l =
    let there : j < n - 1 = omega arith in
    let at : get_or (range_with_len 1 (n - 1)) j 0 ≡ suc j = get_or-range_with_len 1 (n - 1) j 0 there ∙ omega arith in
    let before_it : suc j - 1 ≡ j = omega arith in
    rw (at, before_it) at (h j 0 (omega arith) (omega (arith, length-range_with_len 1 (n - 1))))
