-- A note written anew is its two numbers written anew.
use Rattle.facing.proofs.Numbers.{numbers-set}
use Rattle.facing.proofs.faces.note_subterm.Goals as goal

pub returns-clause-notes_after : goal.returns-clause-notes_after
returns-clause-notes_after c = numbers-set _ _ _
