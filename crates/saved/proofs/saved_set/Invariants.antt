-- What each turn of the loop keeps.
use mathlib.Core.Path.{◌≡◌}
use Prim.Native.Nat.{◌≤◌}
use lib.ListN.{length, take}
use Rattle.meaning.specs.Limits.{set_words_lem}
use Rattle.meaning.specs.Calls.{zeros}
use Rattle.meaning.specs.Saved.{widened_set}
use Rattle.meaning.specs.Over.{over}
use Rattle.saved.proofs.saved_set.Given as goal

abbrev pub invariant-loop-w : goal.invariant-loop-w
invariant-loop-w l = (l.w ≤ set_words_lem) × (length l.set ≡ set_words_lem) × (l.set ≡ over (zeros set_words_lem) 0 (take l.w (widened_set l.words l.position)))
