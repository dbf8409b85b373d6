-- What each turn of the loop keeps.
use mathlib.Core.Path.{◌≡◌}
use Prim.Native.Nat.{◌≤◌}
use Rattle.meaning.specs.Limits.{variable_count}
use Rattle.lines.specs.Lines.{seek_from}
use Rattle.lines.proofs.line.seek.Given as goal

abbrev pub invariant-loop-v : goal.invariant-loop-v
invariant-loop-v l = (l.v ≤ variable_count) × (seek_from l.answer.spans.now l.v ≡ seek_from l.answer.spans.now l.first)
