-- The word and the two numbers, with a space between them and the line end behind, are the line.
use Rattle.text.specs.Texts.{numeral, long_numeral}
use Rattle.text.proofs.Puts.{put_then}
use Rattle.headings_of.proofs.say.put_refusal.Goals as goal

pub returns : goal.returns
unfolding numeral long_numeral
returns c =
    rw (← c.number.ensures, ← c.place.ensures)
    (put_then c.put_text.ensures (put_then c.put_number.ensures.0 (put_then c.put_byte.ensures (put_then c.put_long.ensures.0 c.put_byte-2.ensures))))
