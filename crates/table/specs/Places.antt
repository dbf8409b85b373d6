-- Where a rule is broken, in the meaning's words.
use Rattle.std.proofs.Math.Option.{Option as Found, none, some as just}
use Rattle.std.specs.Prelude.{ℕ, Option, Some, None}

abbrev pub place_in : Option ℕ → Found ℕ
place_in (Some i) = just i
place_in None = none
