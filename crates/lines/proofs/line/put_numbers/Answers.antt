-- Each part is put behind those before it.
use Rattle.text.proofs.Puts.{put_then}
use Rattle.lines.proofs.line.put_numbers.Goals as goal

pub returns : goal.returns
returns c = put_then c.put_number.ensures.0 (put_then c.put_byte.ensures (put_then c.put_number-2.ensures.0 c.put_byte-2.ensures))
