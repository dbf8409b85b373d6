-- What the test says of a list, by its two cases.
use mathlib.Core.Path.{◌≡◌, refl, subst}
use mathlib.Core.List.{List}
use mathlib.Core.Option.{some as just}
use Prim.Native.Nat.{ℕ}
use Rattle.std.specs.Prelude.{Result, Ok, Err}
use Rattle.std.specs.Result.{ForOk, ForErr}
use Rattle.meaning.specs.Refusals.{row}
use Rattle.marc.specs.Known.{known_in, row19}
use Rattle.known_strings.specs.Checks.{CheckedAs}
use Rattle.known_strings.specs.declared.tested.Tested.{Tested}

module _ (text ends numbers : List ℕ) (absent : ℕ) (r : Result Tested ℕ) where
  -- the answer is one on this list
  abbrev pub OnThis : Tested → Type 0
  OnThis t = (t.known.text.now ≡ text) × (t.known.ends.now ≡ ends) × (t.known.numbers.now ≡ numbers) × (t.absent ≡ absent)

  abbrev pub BadAt : ℕ → Type 0
  BadAt entry = row19 (known_in text ends numbers) absent ≡ row 19 (just entry)

  -- LAW: each case of what was checked
  pub on_this : CheckedAs text ends numbers absent r → ForOk r OnThis
  on_this checked t e = subst (CheckedAs text ends numbers absent) e checked

  pub bad_at : CheckedAs text ends numbers absent r → ForErr r BadAt
  bad_at checked entry e = subst (CheckedAs text ends numbers absent) e checked

-- LAW: and both together
pub checked_by : (text ends numbers : List ℕ) (absent : ℕ) (r : Result Tested ℕ) → ForOk r (OnThis text ends numbers absent r) → ForErr r (BadAt text ends numbers absent r) → CheckedAs text ends numbers absent r
checked_by text ends numbers absent (Ok t) fine bad = fine t refl
checked_by text ends numbers absent (Err entry) fine bad = bad entry refl
