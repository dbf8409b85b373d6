-- Each part is put behind those before it.
use Rattle.text.proofs.Puts.{put_then}
use Rattle.lines.proofs.line.put_fields.Goals as goal

pub returns : goal.returns
returns c = put_then c.put_text.ensures (put_then c.put_byte.ensures c.put_numbers.ensures)
