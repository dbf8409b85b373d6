-- The words are put behind the title, where there is room for them.
use mathlib.Core.Path.{refl}
use borrow.Author.Rules.{rules}
use Rattle.output.specs.Titles.{title_text, cut_off_text}
use Rattle.output.proofs.Saying.{said_then_put}
use Rattle.output.proofs.say.say_cut_off.Goals as goal

pub returns : goal.returns
returns c =
    let title = c.in_ok-title in
    said_then_put c.args.out.now c.args.used (title_text c.args.k) cut_off_text c.say_title.new.out _ c.requires.0 title.title title.ensures.0 c.put_text.ensures refl refl (search rules) _ refl refl
