-- What the answer about a whole list says, in the theory's words.
use Rattle.std.specs.Prelude.{ℕ, Result, Ok, Err}
use Rattle.theory.specs.Read.{Reading, whole, faulty}

abbrev pub reading_in : {A : Type 0} → Result A ℕ → Reading
reading_in (Ok a) = whole
reading_in (Err i) = faulty i
