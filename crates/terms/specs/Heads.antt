-- What is asked of a node as the head of a term, in the theory's words.
use Rattle.std.specs.Prelude.{Bool, cond, ℕ, Option, Some, None}
use Rattle.std.proofs.Math.Option.{Option as Asked, none, some as just}
use Rattle.theory.specs.Table.{Table}
use Rattle.theory.specs.Read.{permitted, width}

-- How many arguments follow node x, if it may stand in a term.
unfoldable pub following : Table → Bool → ℕ → Asked ℕ
following T vars x = cond (permitted T vars x) (just (width T vars x)) none

abbrev pub takes_in : Option ℕ → Asked ℕ
takes_in (Some n) = just n
takes_in None = none
