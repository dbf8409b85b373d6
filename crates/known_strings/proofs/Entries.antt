-- The list as it is lent, entry by entry.
use mathlib.Core.Path.{◌≡◌, refl, ap, ◌∙◌}
use mathlib.Core.List.{List, [], ◌∷◌}
use Prim.Native.Nat.{ℕ, zero, suc, ◌-◌, ◌<◌, min}
use native.Mathlib.Omega.{arith}
use lib.ListN.{length, get_or, take, drop}
use Rattle.marc.specs.Known.{known, string_of, number_of, entry_of, known_from, known_in}
use Rattle.marc.proofs.Order.{start_of, entry_in}
use Rattle.known_strings.specs.Lent.{begin_of_lem, string_in}

-- ---- how many there are

counted_from : (text : List ℕ) (start : ℕ) (ends numbers : List ℕ) → length (known_from text start ends numbers) ≡ min (length ends) (length numbers)
counted_from text start [] numbers = omega arith
counted_from text start (e ∷ ends) [] = omega arith
counted_from text start (e ∷ ends) (n ∷ numbers) = omega (arith, counted_from text e ends numbers)

-- LAW: as many as the shorter of the two lists has
pub counted : (text ends numbers : List ℕ) → length (known_in text ends numbers) ≡ min (length ends) (length numbers)
unfolding known_in
counted text ends numbers = counted_from text 0 ends numbers

-- ---- one string

begins_there : (ends : List ℕ) (j : ℕ) → start_of 0 ends j ≡ begin_of_lem ends j
begins_there ends zero = refl
begins_there ends (suc j) = refl

module _ (text ends numbers : List ℕ) (j : ℕ) (l : j < length ends) (m : j < length numbers) where
  -- LAW: entry j
  pub entry_is : entry_of (known_in text ends numbers) j ≡ known (string_in text ends j) (get_or numbers j 0)
  unfolding string_in
  entry_is = entry_in text ends numbers j l m ∙ ap (λ s. known (take (get_or ends j 0 - s) (drop s text)) (get_or numbers j 0)) (begins_there ends j)

  pub string_is : string_of (entry_of (known_in text ends numbers) j) ≡ string_in text ends j
  string_is = ap string_of entry_is

  pub number_is : number_of (entry_of (known_in text ends numbers) j) ≡ get_or numbers j 0
  number_is = ap number_of entry_is
