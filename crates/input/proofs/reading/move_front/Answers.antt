-- What is copied to the front stands there.
use mathlib.Core.Path.{ap₂, ◌∙◌}
use lib.ListN.{take}
use Rattle.input.proofs.Kept.{copied_front}
use Rattle.input.proofs.reading.move_front.Goals as goal

pub returns : goal.returns
returns c =
    let kept = c.args.kept in
    (c.len.ensures, ap₂ take c.len.ensures c.copy_within.ensures.after ∙ copied_front c.args.buffer.now kept.at kept.end c.requires)
