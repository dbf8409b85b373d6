-- Strings of one length are the same exactly if they compare so, and strings of two lengths are not.
use mathlib.Core.Path.{◌∙◌}
use borrow.Author.Tests.{ne_eqb}
use lib.ListN.{length}
use Rattle.known_strings.proofs.Bytes.{unlike}
use Rattle.known_strings.proofs.Words.{same_compared}
use Rattle.known_strings.proofs.compare.same_bytes.Goals as goal

pub returns-then-one-two : goal.returns-then-one-two
returns-then-one-two c = c.is_eq.ensures ∙ same_compared c.args.one.now c.args.two.now c.compare.result c.compare.ensures

pub returns-else-one-two : goal.returns-else-one-two
returns-else-one-two c = let a = c.args in ne_eqb (length a.one.now) (length a.two.now) c.if-one-two.false ∙ unlike a.one.now a.two.now c.if-one-two.false
