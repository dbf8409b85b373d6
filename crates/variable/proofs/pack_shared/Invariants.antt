-- What each turn of the loop keeps.
use mathlib.Core.Path.{◌≡◌}
use mathlib.Core.List.{List}
use Prim.Native.Nat.{ℕ, ◌≤◌}
use lib.ListN.{length}
use Rattle.theory.specs.Tree.{Term}
use Rattle.theory.specs.Stands.{Gathered}
use Rattle.table.specs.Sound.{table_of}
use Rattle.wide.specs.Index.{Index}
use Rattle.facing.specs.Notes.{numbers_of}
use Rattle.positions.specs.Position.{NearOf}
use Rattle.variable.specs.Variable.{PackedTo}
use Rattle.variable.proofs.pack_shared.Given as goal

abbrev pub invariant-loop-k : goal.invariant-loop-k
invariant-loop-k l =
    (l.k ≤ l.positions)
    × (length l.index ≡ length l.initial.index)
    × (length l.sets ≡ length l.initial.sets)
    × Index l.table.file.now l.index
    × (l.degrees.lowest ≤ 1000)
    × (l.degrees.highest ≤ 1000)
    × ((ts : List Term) (cut : ℕ) → Gathered l.heading (numbers_of l.notes) (length l.notes) ts → NearOf (table_of l.table) cut l.near l.heading
    → PackedTo (table_of l.table) cut ts l.k l.initial.sets l.sets l.formed l.degrees.lowest l.degrees.highest)
