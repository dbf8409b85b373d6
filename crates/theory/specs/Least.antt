-- The least of a list's values; what is least, most, or so for every or some number below n; the least number that passes a test.
use Rattle.std.specs.Prelude.{List, [], ◌∷◌, ◌++◌, Bool, true, false, ◌&&◌, ◌||◌, cond, ℕ, zero, suc, min, max}
use Rattle.std.proofs.Math.Option.{Option, none, some as just}

module _ {A : Type 0} where
  -- the least f x of the list, 1000 if there is none
  abbrev pub least : (A → ℕ) → List A → ℕ
  least f [] = 1000
  least f (x ∷ xs) = min (f x) (least f xs)

  -- P holds of every element
  abbrev pub All : (A → Type 0) → List A → Type 0
  All P [] = Unit {0}
  All P (x ∷ xs) = P x × All P xs

-- every, some number below n passes the test
abbrev pub every : ℕ → (ℕ → Bool) → Bool
every zero b = true
every (suc n) b = b n && every n b

abbrev pub some : ℕ → (ℕ → Bool) → Bool
some zero b = false
some (suc n) b = b n || some n b

-- the least, the most f k for k below n; 1000, 0 if there is none
abbrev pub lowest : ℕ → (ℕ → ℕ) → ℕ
lowest zero f = 1000
lowest (suc n) f = min (f n) (lowest n f)

abbrev pub highest : ℕ → (ℕ → ℕ) → ℕ
highest zero f = 0
highest (suc n) f = max (f n) (highest n f)

-- the numbers below n that pass the test, rising
abbrev pub collect : ℕ → (ℕ → Bool) → List ℕ
collect zero b = []
collect (suc n) b = collect n b ++ cond (b n) (n ∷ []) []

-- the least number below n that passes the test, if one does
abbrev pub or_else : Option ℕ → Option ℕ → Option ℕ
or_else (just i) o = just i
or_else none o = o

abbrev pub least_below : ℕ → (ℕ → Bool) → Option ℕ
least_below zero b = none
least_below (suc n) b = or_else (least_below n b) (cond (b n) (just n) none)

-- 1 and the last number below n that passes the test, 0 if none does
unfoldable pub last_below : ℕ → (ℕ → Bool) → ℕ
last_below zero b = 0
last_below (suc n) b = cond (b n) (suc n) (last_below n b)
