-- Nothing is said to make room, and then the line is put behind what stands there.
use mathlib.Core.Path.{refl}
use mathlib.Core.List.{[]}
use native.Mathlib.Omega.{arith}
use borrow.Author.Rules.{rules}
use Rattle.text.specs.Texts.{long_numeral}
use Rattle.output.specs.Titles.{title_text}
use Rattle.output.proofs.Titles.{title_short}
use Rattle.output.proofs.Saying.{said_then_put}
use Rattle.output.proofs.say.say_title.Goals as goal

pub returns : goal.returns
unfolding title_text long_numeral
returns c =
    let room = c.in_ok-room.room in
    let said = c.in_ok-room.ensures in
    (said_then_put c.args.out.now c.args.used [] _ c.args.out.now _ c.requires.0 room said.0 c.put_numbered.ensures refl refl (search rules) _ refl refl, omega (arith, said.1, c.put_numbered.ensures.ends, title_short c.args.k))
