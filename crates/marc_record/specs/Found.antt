-- What is found, or not, in the meaning's words.
use Rattle.std.specs.Prelude.{Option, Some, None}
use Rattle.std.proofs.Math.Option.{Option as Maybe, none, some as just}

abbrev pub found : {A : Type 0} → Option A → Maybe A
found (Some x) = just x
found None = none
