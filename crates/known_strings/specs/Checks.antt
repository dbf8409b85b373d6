-- What is said of a list that was tested: 19's first entry, or that there is none and how a string may be sought in it.
use Rattle.std.specs.Prelude.{◌≡◌, List, ℕ}
use Rattle.std.specs.Prelude.{Result, Ok, Err}
use Rattle.std.proofs.Math.Option.{some as just}
use Rattle.meaning.specs.Refusals.{row}
use Rattle.marc.specs.Known.{known_in, row19}
use Rattle.known_strings.specs.declared.tested.Tested.{Tested}

-- The test's answer is one on this list with this number of absent dates. That no entry is bad, and that the strings rise where it says so, holds of each `Tested`.
abbrev pub CheckedAs : List ℕ → List ℕ → List ℕ → ℕ → Result Tested ℕ → Type 0
CheckedAs text ends numbers absent (Ok t) = (t.known.text.now ≡ text) × (t.known.ends.now ≡ ends) × (t.known.numbers.now ≡ numbers) × (t.absent ≡ absent)
CheckedAs text ends numbers absent (Err entry) = row19 (known_in text ends numbers) absent ≡ row 19 (just entry)
