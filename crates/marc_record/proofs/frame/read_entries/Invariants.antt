-- No entry passed has a fault, and this is the first field passed that does not end with its mark.
use Rattle.std.proofs.Common.{◌≡◌}
use Rattle.std.proofs.Math.Option.{none}
use Rattle.marc.specs.Frame.{entry_fault, first_place}
use Rattle.marc_record.specs.Found.{found}
use Rattle.marc_record.specs.Frames.{unended}
use Rattle.marc_record.proofs.frame.read_entries.Given as goal

abbrev pub invariant-loop-e : goal.invariant-loop-e
invariant-loop-e l =
    (first_place l.e (entry_fault l.bytes) ≡ none) × (found l.unmarked ≡ first_place l.e (unended l.bytes))
