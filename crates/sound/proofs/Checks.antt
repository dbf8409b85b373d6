-- What a check of the table says to a call: that it is sound, or the refusal that the call then gives.
use mathlib.Core.Path.{◌≡◌, sym, ap, ◌∙◌}
use mathlib.Core.List.{List, ◌++◌}
use mathlib.Core.Option.{some as just}
use Prim.Native.Nat.{ℕ}
use Rattle.std.specs.Prelude.{Result, Ok, Err}
use Rattle.meaning.specs.Refusals.{Refusal as Given, refusal, Row, first, table_rows, SoundFile}
use Rattle.meaning.specs.Calls.{unless}
use Rattle.meaning.proofs.Compose.{first_stays}
use Rattle.refusal.specs.declared.Refusal.{Refusal}
use Rattle.refusal.specs.Told.{told, refused_by}
use Rattle.refusal.proofs.One.{unless-told}
use Rattle.sound.specs.Found.{found}

module _ {A : Type 0} (table : List ℕ) (r : Result A Refusal) (e : found r ≡ first (table_rows table)) where
  pub sound_by : (a : A) → r ≡ Ok a → SoundFile table
  sound_by a q = sym e ∙ ap found q

  pub refused_by_lem : (why : Refusal) → r ≡ Err why → first (table_rows table) ≡ just (told why)
  refused_by_lem why q = sym e ∙ ap found q

-- LAW: a refusal given by the first rows is given by all
pub stays_refused : (rows more : List Row) (g : Given) → first rows ≡ just g → first (rows ++ more) ≡ just g
stays_refused rows more (refusal n place) e = first_stays rows more n place e

module _ {A : Type 0} (a : A) (why : Refusal) where
  -- LAW: the refusal that a call's rows give is what it says
  pub says : (rows : List Row) → first rows ≡ just (told why) → refused_by why ≡ unless (first rows) a
  says rows e = sym (unless-told why (first rows) a e)

  -- LAW: .. also where more rows follow
  pub says_early : (rows more : List Row) → first rows ≡ just (told why) → refused_by why ≡ unless (first (rows ++ more)) a
  says_early rows more e = says (rows ++ more) (stays_refused rows more (told why) e)
