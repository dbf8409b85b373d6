-- Nothing is said to make room, and then the record's text is put behind what stands there.
use mathlib.Core.Path.{refl}
use mathlib.Core.List.{[]}
use borrow.Author.Rules.{rules}
use Rattle.output.proofs.Saying.{said_then_put}
use Rattle.headings_of.proofs.say.say_record.Goals as goal

pub returns : goal.returns
returns c =
    let said = c.in_ok-room.ensures in
    said_then_put c.args.out.now c.args.used [] _ c.args.out.now _ c.requires.0 c.in_ok-room.room said.0 c.put_record.ensures refl refl (search rules) _ refl refl
