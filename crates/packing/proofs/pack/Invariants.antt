-- What each turn of the loop keeps.
use mathlib.Core.Path.{◌≡◌}
use Prim.Native.Nat.{ℕ, ◌-◌, ◌*◌, ◌≤◌}
use lib.ListN.{length}
use Rattle.meaning.specs.Limits.{variable_count, span_width}
use Rattle.wide.specs.Index.{Index}
use Rattle.facing.specs.Notes.{numbers_of}
use Rattle.packing.specs.Pack.{Packable, NearWhere}
use Rattle.packing.proofs.Meeting.{PackedAlong}
use Rattle.packing.proofs.pack.Given as goal

abbrev pub invariant-loop-node : goal.invariant-loop-node
invariant-loop-node l =
    (l.node-index ≤ length l.asked.pattern.now)
    × (length l.index ≡ length l.initial.index)
    × (length l.own ≡ length l.initial.own)
    × (length l.spans ≡ length l.initial.spans)
    × (length l.sets ≡ length l.initial.sets)
    × Index l.asked.table.file.now l.index
    × ((cut : ℕ) → Packable l.asked.table.file.now l.asked.pattern.now l.asked.heading.now cut (numbers_of l.notes) → NearWhere l.asked.table.file.now l.asked.pattern.now l.asked.heading.now cut l.near
    → PackedAlong l.asked.table.file.now l.asked.pattern.now l.asked.heading.now cut l.node-index (length l.initial.spans - span_width * variable_count) l.initial.sets l.search l.spans l.sets)
