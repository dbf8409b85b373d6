-- The first place, as a loop seeks it.
use Rattle.std.proofs.Common.{Option, Some, None, ◌≡◌, refl, sym}
use mathlib.Core.List.{List}
use mathlib.Core.Option.{Option as Maybe, none, some as just}
use Prim.Native.Nat.{ℕ, zero, suc, ◌+◌, ◌-◌, ◌<◌}
use native.Mathlib.Decide.{dec_lt}
use native.Mathlib.Numerals.{add-one}
use native.Mathlib.Omega.{arith}
use borrow.Author.Tests.{eq-eqb, ne_eqb}
use lib.ListN.{get_or}
use Rattle.marc.specs.Frame.{field_end, field_mark, first_place}
use Rattle.std.specs.Option.{option_or}
use Rattle.theory.specs.Least.{or_else}
use Rattle.marc_record.specs.Found.{found}
use Rattle.marc_record.specs.Frames.{unended}

module _ (f : ℕ → Maybe ℕ) where
  -- LAW: none for the numbers below k, and none for k
  pub place_on : (k : ℕ) → first_place k f ≡ none → f k ≡ none → first_place (k + 1) f ≡ none
  place_on k e q = rw (add-one k) (rw (e, q))

  -- LAW: none for the numbers below k, and one for k
  pub place_at : (k n p : ℕ) → first_place k f ≡ none → f k ≡ just p → k < n → first_place n f ≡ just p
  place_at k zero p e q l = absurd (omega arith)
  place_at k (suc n) p e q l = go (dec_lt k n) (place_at k n p e q)
    where
      go : Dec (k < n) → (k < n → first_place n f ≡ just p) → first_place (suc n) f ≡ just p
      go (yes m) rest = rw (rest m)
      go (no m) rest = let s : n ≡ k = omega arith in rw (s, e, q)

-- LAW: the first field without its mark, where one more field is looked at
module _ (r : List ℕ) (e last : ℕ) (o : Option ℕ) (so_far : found o ≡ first_place e (unended r)) (at : last ≡ field_end r e - 1) where
  pub mark_missed : (get_or r last 0 ≡ field_mark → ⊥) → found (option_or o (Some last)) ≡ first_place (e + 1) (unended r)
  mark_missed n = rw (add-one e, sym so_far, sym at, ne_eqb (get_or r last 0) field_mark n) (go o)
    where
      go : (o : Option ℕ) → found (option_or o (Some last)) ≡ or_else (found o) (just last)
      go None = refl
      go (Some place) = refl

  pub mark_stands : get_or r last 0 ≡ field_mark → found o ≡ first_place (e + 1) (unended r)
  mark_stands m = rw (add-one e, sym so_far, sym at, eq-eqb (get_or r last 0) field_mark m) (go o)
    where
      go : (o : Option ℕ) → found o ≡ or_else (found o) none
      go None = refl
      go (Some place) = refl
