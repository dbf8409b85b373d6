-- The writer's refusals by how many pairs may be listed, and what it leaves once all but the pairs is written.
use Rattle.std.specs.Prelude.{List, [], ◌∷◌, ◌++◌, cond, ℕ, ltb, length}
use Rattle.std.proofs.Math.Option.{Option, none, some as just}
use Rattle.meaning.specs.File.{total, header}
use Rattle.meaning.specs.Refusals.{Refusal, Row, row, first, at0, row2, row3}
use Rattle.meaning.specs.Calls.{Answer, unless}
use Rattle.meaning.specs.Over.{over}

-- Where p pairs stop being sound, if so many of them are, from the first on: at the next one, if there is one.
abbrev pub stop : ℕ → ℕ → Option ℕ
stop sound p = cond (ltb sound p) (just sound) none

-- The writer's rows for p pairs of which so many, from the first on, are sound.
unfoldable pub counted_rows : List ℕ → ℕ → ℕ → ℕ → List Row
counted_rows arities p sound room =
    row2 (length arities) p ∷ row3 arities ∷ row 4 (stop sound p) ∷ row 8 (at0 (ltb room (total (length arities) p))) ∷ []

unfoldable pub counted_answer : List ℕ → ℕ → ℕ → ℕ → Answer ℕ
counted_answer arities p sound room = unless (first (counted_rows arities p sound room)) (total (length arities) p)

-- What the output holds once all but the pairs is written; or as it was.
abbrev pub front_unless : Option Refusal → List ℕ → ℕ → List ℕ → List ℕ
front_unless none arities p output = over output 0 (header (length arities) p ++ arities)
front_unless (just r) arities p output = output

unfoldable pub begun_output : List ℕ → ℕ → ℕ → List ℕ → List ℕ
begun_output arities p sound output = front_unless (first (counted_rows arities p sound (length output))) arities p output
