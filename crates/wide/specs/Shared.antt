-- What symbols share with the symbols of a set, and the least and the most of it.
use Rattle.std.specs.Prelude.{List, cond, ℕ, leb}
use Rattle.theory.specs.Table.{Table}
use Rattle.theory.specs.Least.{lowest, highest}
use Rattle.meaning.specs.Buffers.{member}

-- what symbol s shares with the symbols of a set, given by its words: the least of its degrees with them
abbrev pub shared_by_lem : Table → List ℕ → ℕ → ℕ
shared_by_lem T faced s = lowest T.size (λ h. cond (member faced h) (T.deg s h) 1000)

-- the least and the most of the first n values, of those that are not below `floor`; 1000, 0 if there is none
abbrev pub lowest_from : ℕ → ℕ → (ℕ → ℕ) → ℕ
lowest_from floor n f = lowest n (λ s. cond (leb floor (f s)) (f s) 1000)

abbrev pub highest_from : ℕ → ℕ → (ℕ → ℕ) → ℕ
highest_from floor n f = highest n (λ s. cond (leb floor (f s)) (f s) 0)
