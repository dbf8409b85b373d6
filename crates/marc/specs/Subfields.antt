-- The parts of a field: two indicators, and then subfields. Hex 1F opens one; then comes its code, and its text goes on until 1F opens another or the
-- field is over.
use Rattle.std.specs.Prelude.{List, [], ◌∷◌, Bool, false, ◌&&◌, cond, ℕ, eqb, drop}
use Rattle.std.proofs.Math.Option.{Option, none, some as just}

abbrev pub subfield_mark : ℕ
subfield_mark = 31

-- the bytes before a 1F, or all
abbrev pub text_to : List ℕ → List ℕ
text_to [] = []
text_to (b ∷ bs) = cond (eqb b subfield_mark) [] (b ∷ text_to bs)

-- the first byte is that code
abbrev pub has_code : ℕ → List ℕ → Bool
has_code code [] = false
has_code code (b ∷ bs) = eqb b code

-- The text of the first subfield with that code. What stands before the first 1F belongs to no subfield, and a 1F with no code behind it opens none.
unfoldable pub text_of : ℕ → List ℕ → Option (List ℕ)
text_of code [] = none
text_of code (b ∷ bs) = cond (eqb b subfield_mark && has_code code bs) (just (text_to (drop 1 bs))) (text_of code bs)

-- The same in a whole field, behind its two indicators.
unfoldable pub subfield : ℕ → List ℕ → Option (List ℕ)
subfield code content = text_of code (drop 2 content)
