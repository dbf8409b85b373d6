-- Lists that are headings, and the degree of two.
use Rattle.std.specs.Prelude.{◌≡◌, List, false, ℕ}
use Rattle.theory.specs.Table.{Table, degree}
use Rattle.theory.specs.Read.{whole, reading}
use Rattle.theory.specs.Decode.{term_of}

-- The list is a term without variables.
abbrev pub Heading : Table → List ℕ → Type 0
Heading T xs = reading T false xs ≡ whole

-- The degree of the terms that two lists write.
abbrev pub degree_of : Table → List ℕ → List ℕ → ℕ
degree_of T one two = degree T (term_of T one) (term_of T two)
