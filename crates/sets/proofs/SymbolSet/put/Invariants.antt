-- What each turn of the loop keeps.
use mathlib.Core.Path.{◌≡◌}
use Prim.Native.Nat.{◌≤◌}
use lib.ListN.{length, take}
use Rattle.meaning.specs.Limits.{set_words_lem}
use Rattle.meaning.specs.Over.{over}
use Rattle.sets.proofs.SymbolSet.put.Given as goal

abbrev pub invariant-loop-w : goal.invariant-loop-w
invariant-loop-w l =
    (l.w ≤ set_words_lem) × (length l.list ≡ length l.initial.list) × (l.list ≡ over l.initial.list l.at (take l.w l.words))
