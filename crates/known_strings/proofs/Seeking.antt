-- The number of a string is that of the first entry that has it. Where the strings rise, those below an entry stand before it and those above it after
-- it, so that one look settles one of two halves.
use mathlib.Core.Path.{◌≡◌, refl, sym as inv, ap, ap₂, ◌∙◌}
use mathlib.Core.List.{List, [], ◌∷◌}
use mathlib.Core.Bool.{Bool, true, false}
use mathlib.Core.Option.{Option as Maybe, none, some as just}
use Prim.Native.Nat.{ℕ, zero, suc, ◌+◌, ◌≤◌, ◌<◌}
use native.Mathlib.Decide.{dec_lt}
use native.Mathlib.Numerals.{add-one}
use native.Mathlib.Omega.{arith}
use lib.ListN.{length, get_or, take}
use Rattle.std.specs.Prelude.{Option, Some, None, MatchOption, is_some}
use Rattle.std.specs.List.{AllWithin, HoldsAt}
use Rattle.std.proofs.lemmas.List.{get_or-take}
use Rattle.theory.specs.Least.{some, least_below}
use Rattle.theory.proofs.Lemmas.{some_of, least-none, least_just}
use Rattle.meaning.proofs.First.{none_below, least_at}
use Rattle.marc.specs.Known.{Known, known, string_of, entry_of, number_of, same, known_in, number_in}
use Rattle.marc.specs.Order.{before}
use Rattle.marc.proofs.Order.{passed_on, lower_differs, higher_differs, far}
use Rattle.marc.proofs.Places.{least_inside}
use Rattle.marc.proofs.Strings.{none_of, true_same}
use Rattle.table.specs.Places.{place_in}
use Rattle.known_strings.specs.Lent.{begin_of_lem, part_in, string_in, is_string, RisesTo}
use Rattle.known_strings.proofs.Entries.{counted, string_is, number_is}

-- ---- a walk that keeps where the next string begins

-- LAW: the part that it comes to is string j, so that a test of the one is a test of the other
pub met : (text ends string : List ℕ) (n j start : ℕ) → start ≡ begin_of_lem ends j → j < n
    → (bytes : List ℕ) (b : Bool) → bytes ≡ part_in text start (get_or (take n ends) j 0) → b ≡ same bytes string → b ≡ is_string text ends string j
unfolding string_in
met text ends string n j start s l bytes b e f = f ∙ ap (λ x. same x string) (e ∙ ap₂ (part_in text) s (get_or-take n ends j 0 l))

-- LAW: .. and where it ends the next one begins
pub begins_next : (ends : List ℕ) (n j : ℕ) → j < n → get_or (take n ends) j 0 ≡ begin_of_lem ends (j + 1)
begins_next ends n j l = get_or-take n ends j 0 l ∙ inv (ap (begin_of_lem ends) (add-one j))

-- LAW: what fails the test up to j, and at j, fails it up to behind j
pub one_passed : (b : ℕ → Bool) (j : ℕ) → ((i : ℕ) → i < j → b i ≡ false) → b j ≡ false → (i : ℕ) → i < j + 1 → b i ≡ false
one_passed b j h e i l = go (dec_lt i j)
  where
    go : Dec (i < j) → b i ≡ false
    go (yes d) = h i d
    go (no d) = let f : i ≡ j = omega arith in ap b f ∙ e

-- ---- any list

first-at : (ks : List Known) (string : List ℕ) (j : ℕ) → j < length ks → ((i : ℕ) → i < j → same (string_of (entry_of ks i)) string ≡ false)
    → same (string_of (entry_of ks j)) string ≡ true → number_in ks string ≡ just (number_of (entry_of ks j))
unfolding number_in
first-at [] string j l h e = absurd (omega arith)
first-at (known s n ∷ ks) string zero l h e = rw e
first-at (known s n ∷ ks) string (suc j) l h e = rw (h 0 (omega arith)) (first-at ks string j (omega arith) (λ i m. h (suc i) (omega arith)) e)

nowhere : (ks : List Known) (string : List ℕ) → ((i : ℕ) → i < length ks → same (string_of (entry_of ks i)) string ≡ false) → number_in ks string ≡ none
unfolding number_in
nowhere [] string h = refl
nowhere (known s n ∷ ks) string h = rw (h 0 (omega arith)) (nowhere ks string (λ i l. h (suc i) (omega arith)))

-- ---- the first of the numbers below n that passes a test

-- LAW: a search that passes what fails the test, and stops at what passes it, finds the least
pub least_found : (b : ℕ → Bool) (n : ℕ) (r : Option ℕ)
    → MatchOption r ((k : ℕ) → 0 ≤ k → k < n → b k ≡ false) (λ i. (0 ≤ i) × (i < n) × (b i ≡ true) × ((k : ℕ) → 0 ≤ k → k < i → b k ≡ false)) → place_in r ≡ least_below n b
least_found b n None h = inv (none_below b n (λ k l. h k (omega arith) l))
least_found b n (Some i) h = inv (least_at b i n (none_below b i (λ k l. h.3 k (omega arith) l)) h.2 h.1)

-- LAW: the same of a search in a list
pub least_in : (test : ℕ → Bool) (xs : List ℕ) (r : Option ℕ)
    → MatchOption r (AllWithin (λ x. test x ≡ false) xs 0 (length xs)) (λ i. (i < length xs) × HoldsAt (λ x. test x ≡ true) xs i × AllWithin (λ x. test x ≡ false) xs 0 i)
    → place_in r ≡ least_below (length xs) (λ j. test (get_or xs j 0))
least_in test xs None h = least_found (λ j. test (get_or xs j 0)) (length xs) None (λ k l m. h k 0 l m)
least_in test xs (Some i) h = least_found (λ j. test (get_or xs j 0)) (length xs) (Some i) (omega arith, h.0, h.1 0, λ k l m. h.2 k 0 l m)

-- LAW: a search finds one where there is one
pub some_found : (b : ℕ → Bool) (n : ℕ) (r : Option ℕ) → place_in r ≡ least_below n b → is_some r ≡ some n b
some_found b n None e = inv (none_of n b (least-none n b (inv e)))
some_found b n (Some i) e = inv (some_of n b i (least_inside b n i (inv e)) (least_just n b i (inv e)).passes)

module _ (text ends numbers string : List ℕ) where
  abbrev listed : List Known
  listed = known_in text ends numbers

  by_entry : (i : ℕ) → i < length listed → same (string_of (entry_of listed i)) string ≡ same (string_in text ends i) string
  by_entry i l = let n = counted text ends numbers in ap (λ s. same s string) (string_is text ends numbers i (omega (arith, n)) (omega (arith, n)))

  -- the first of the strings that is the one
  abbrev pub first_place : Maybe ℕ
  first_place = least_below (length listed) (is_string text ends string)

  -- LAW: string j is the first that is the one
  pub found_at : (j : ℕ) → just j ≡ first_place → just (get_or numbers j 0) ≡ number_in listed string
  found_at j e =
      let first = least_just (length listed) (is_string text ends string) j (inv e) in
      let l = least_inside (is_string text ends string) (length listed) j (inv e) in
      let n = counted text ends numbers in
      let number = number_is text ends numbers j (omega (arith, n)) (omega (arith, n)) in
      inv (first-at listed string j l (λ i m. by_entry i (omega arith) ∙ first.least i m) (by_entry j l ∙ first.passes) ∙ ap just number)

  -- LAW: .. and has a number
  pub found_inside : (j : ℕ) → just j ≡ first_place → j < length numbers
  found_inside j e = omega (arith, counted text ends numbers, least_inside (is_string text ends string) (length listed) j (inv e))

  -- LAW: none is
  pub found_none : none ≡ first_place → none ≡ number_in listed string
  found_none e = inv (nowhere listed string (λ i l. by_entry i l ∙ least-none (length listed) (is_string text ends string) (inv e) i l))

-- ---- strings that rise

module _ (text ends string : List ℕ) (n : ℕ) where
  -- those below `low` stand before the string that is sought, those from `high` on after it
  abbrev pub Between : ℕ → ℕ → Type 0
  Between low high = ((i : ℕ) → i < low → before (string_in text ends i) string ≡ true) × ((i : ℕ) → high ≤ i → i < n → before string (string_in text ends i) ≡ true)

  module _ (rising : RisesTo text ends n) (low high middle : ℕ) (b : Between low high) where
    -- LAW: the string at the middle stands before it, after it
    pub go_up : middle < n → before (string_in text ends middle) string ≡ true → Between (middle + 1) high
    go_up l p = (λ i m. go i m (dec_lt i middle), b.1)
      where
        go : (i : ℕ) → i < middle + 1 → Dec (i < middle) → before (string_in text ends i) string ≡ true
        go i m (yes d) = passed_on (string_in text ends i) (string_in text ends middle) string (far (string_in text ends) n rising middle i d l) p
        go i m (no d) = let e : i ≡ middle = omega arith in ap (λ i. before (string_in text ends i) string) e ∙ p

    pub go_down : before string (string_in text ends middle) ≡ true → Between low middle
    go_down p = (b.0, λ i u w. go i u w (dec_lt middle i))
      where
        go : (i : ℕ) → middle ≤ i → i < n → Dec (middle < i) → before string (string_in text ends i) ≡ true
        go i u w (yes d) = passed_on string (string_in text ends middle) (string_in text ends i) p (far (string_in text ends) n rising i middle d w)
        go i u w (no d) = let e : i ≡ middle = omega arith in ap (λ i. before string (string_in text ends i)) e ∙ p

  -- LAW: string j is the one, so that those before it stand before the one that is sought
  pub place_at : RisesTo text ends n → (j : ℕ) → j < n → string_in text ends j ≡ string → just j ≡ least_below n (is_string text ends string)
  place_at rising j l e = inv (least_at (is_string text ends string) j n (none_below (is_string text ends string) j before_it) (true_same (string_in text ends j) string e) l)
    where
      before_it : (i : ℕ) → i < j → is_string text ends string i ≡ false
      before_it i m = ap (same (string_in text ends i)) (inv e) ∙ lower_differs (string_in text ends i) (string_in text ends j) (far (string_in text ends) n rising j i m l)

  -- LAW: the two have met: none is
  pub place_none : (low high : ℕ) → Between low high → high ≤ low → none ≡ least_below n (is_string text ends string)
  place_none low high b h = inv (none_below (is_string text ends string) n (λ i l. go i l (dec_lt i low)))
    where
      go : (i : ℕ) → i < n → Dec (i < low) → is_string text ends string i ≡ false
      go i l (yes d) = lower_differs (string_in text ends i) string (b.0 i d)
      go i l (no d) = higher_differs (string_in text ends i) string (b.1 i (omega arith) l)
