-- Each part is put behind those before it.
use Rattle.text.proofs.Puts.{put_then}
use Rattle.output.proofs.say.put_numbered.Goals as goal

pub returns : goal.returns
returns c = put_then c.put_text.ensures (put_then c.put_byte.ensures (put_then c.put_long.ensures.0 c.put_byte-2.ensures))
