-- A table from its arities and its listed pairs.
use Rattle.std.specs.Prelude.{◌≡◌, List, [], ◌∷◌, Bool, ◌&&◌, ◌||◌, cond, ℕ, ◌≤◌, ◌<◌, eqb, ltb, length, get_or}
use Rattle.theory.specs.Table.{Table}

-- a listed pair: its lower and its higher symbol, and their degree
pub data Pair : Type 0 where
  pair : ℕ → ℕ → ℕ → Pair

-- a and b are the pair's symbols, in either order
abbrev pub is_pair : ℕ → ℕ → ℕ → ℕ → Bool
is_pair l h a b = (eqb a l && eqb b h) || (eqb a h && eqb b l)

-- the degree listed for a and b, 0 if none is
abbrev pub listed : List Pair → ℕ → ℕ → ℕ
listed [] a b = 0
listed (pair l h d ∷ ps) a b = let r = listed ps a b in cond (is_pair l h a b) d r

-- The degree of two numbers: 1000 of a symbol with itself, else as listed; 0 where one is no symbol, so that only symbols are near to anything.
abbrev pub degree_in : ℕ → List Pair → ℕ → ℕ → ℕ
degree_in n ps a b = cond (ltb a n && ltb b n) (cond (eqb a b) 1000 (listed ps a b)) 0

abbrev pub table_of : List ℕ → List Pair → Table
table_of arities ps = record { size = length arities; arity = λ a. get_or arities a 0; deg = degree_in (length arities) ps }

-- The highest degree that may be listed: two different symbols are never wholly the same.
abbrev pub listed_top : ℕ
listed_top = 999

-- A pair that may be listed: two different symbols of the table with equal arities, and a degree from 1 to the highest that may be listed.
abbrev pub SoundPair : List ℕ → Pair → Type 0
SoundPair ar (pair l h d) = (l < h) × (h < length ar) × (get_or ar l 0 ≡ get_or ar h 0) × (0 < d) × (d ≤ listed_top)
