-- What each turn of the loop keeps.
use mathlib.Core.Path.{◌≡◌}
use mathlib.Core.List.{[], ◌∷◌}
use mathlib.Core.Bool.{true}
use Prim.Native.Nat.{ℕ, ◌≤◌}
use lib.ListN.{length}
use Rattle.theory.specs.Tree.{Term, enc}
use Rattle.theory.specs.Table.{Table}
use Rattle.positions.specs.Position.{NearOf}
use Rattle.variable.specs.Variable.{PackedTo}
use Rattle.variable.proofs.pack_alone.Given as goal

abbrev pub invariant-loop-k : goal.invariant-loop-k
invariant-loop-k l =
    (l.k ≤ l.k-end)
    × (length l.sets ≡ length l.initial.sets)
    × ((T : Table) (t : Term) (cut : ℕ) → l.term ≡ enc t → NearOf T cut l.near l.term → PackedTo T cut (t ∷ []) l.k l.initial.sets l.sets true l.lowest 1000)
