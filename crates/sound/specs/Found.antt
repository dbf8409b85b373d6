-- What the check finds, in the meaning's words.
use Rattle.std.proofs.Math.Option.{Option, none, some as just}
use Rattle.std.specs.Prelude.{Result, Ok, Err}
use Rattle.meaning.specs.Refusals.{Refusal as Given}
use Rattle.refusal.specs.declared.Refusal.{Refusal}
use Rattle.refusal.specs.Told.{told}

abbrev pub found : {A : Type 0} → Result A Refusal → Option Given
found (Ok a) = none
found (Err f) = just (told f)
