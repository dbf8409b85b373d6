-- Strings that rise: code sees in one walk that none stands twice, and can look a string up by halving. No promise rests on this.
use Rattle.std.specs.Prelude.{◌≡◌, List, [], ◌∷◌, Bool, true, false, ◌&&◌, ◌||◌, ℕ, suc, ◌<◌, eqb, ltb}

-- The first string stands before the second: byte by byte, and one that ends first stands first.
abbrev pub before : List ℕ → List ℕ → Bool
before [] [] = false
before [] (b ∷ bs) = true
before (a ∷ xs) [] = false
before (a ∷ xs) (b ∷ bs) = ltb a b || (eqb a b && before xs bs)

-- Each of the first n strings stands before the next.
abbrev pub Rises : (ℕ → List ℕ) → ℕ → Type 0
Rises string n = (j : ℕ) → suc j < n → before (string j) (string (suc j)) ≡ true
