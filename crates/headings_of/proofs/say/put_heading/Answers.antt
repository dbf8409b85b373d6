-- The word and the three numbers, with a space between them and the line end behind, are the line.
use mathlib.Core.Path.{subst}
use mathlib.Core.List.{◌∷◌, map}
use Rattle.meaning.specs.Program.{decimal, line}
use Rattle.text.specs.Texts.{PutBy, numeral}
use Rattle.text.proofs.Puts.{put_then}
use Rattle.marc.specs.Printed.{heading_word}
use Rattle.headings_of.proofs.Lines.{three_nodes}
use Rattle.headings_of.proofs.say.put_heading.Goals as goal

pub returns : goal.returns
unfolding numeral
returns c =
    let dates = put_then c.put_byte-2.ensures (put_then c.put_number-3.ensures.0 c.put_byte-3.ensures) in
    let name = put_then c.put_byte.ensures (put_then c.put_number-2.ensures.0 dates) in
    subst (λ nodes. PutBy c.args.text.now (line (heading_word ∷ map decimal nodes)) c.put_byte-3.new.self) (three_nodes c.args.nodes.now c.requires.1)
    (put_then c.put_text.ensures (put_then c.put_number.ensures.0 name))
