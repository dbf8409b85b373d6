-- The call on an exchange record: what it promises for everything that can be lent to it.
use Rattle.std.specs.Prelude.{◌≡◌, List, Result, ℕ}
use Rattle.marc.specs.Known.{known_in}
use Rattle.marc.specs.Heading.{headed, later_nodes}
use Rattle.exchange.specs.Said.{said}
use Rattle.exchange.specs.declared.Fault.{Fault}

-- Its answer, and what the output holds later.
pub record ReadHeading (bytes text ends numbers : List ℕ) (heading absent : ℕ) (nodes : List ℕ) (r : Result (Unit {0}) Fault) (later : List ℕ) : Type 0 where
  pub answers : said r ≡ headed bytes (known_in text ends numbers) heading absent nodes
  pub leaves : later ≡ later_nodes bytes (known_in text ends numbers) heading absent nodes
