-- What the search for a match comes to on its way. The contracts of inner functions say these; no promise rests on them.
use Rattle.std.specs.Prelude.{List, [], ◌∷◌, Bool, not, cond, ℕ, min}
use Rattle.theory.specs.Table.{Table}
use Rattle.theory.specs.Faces.{Face, meets, binds, facing}
use Rattle.theory.specs.Match.{formed}
use Rattle.meaning.specs.Limits.{variable_count}

-- What a node brings as a symbol: a variable's node takes nothing from the least.
abbrev pub symbol_worth : Table → Face → ℕ
symbol_worth T (meets f g) = T.deg f g
symbol_worth T (binds v t) = 1000

-- The variable has no form.
abbrev pub unformed : Table → ℕ → List Face → ℕ → Bool
unformed T c fs v = not (formed T c (facing v fs))

-- The least bad number of a list, as many as there are variables if none below that is bad.
abbrev pub worst : (ℕ → Bool) → List ℕ → ℕ
worst bad [] = variable_count
worst bad (v ∷ vs) = min (cond (bad v) v variable_count) (worst bad vs)
