-- One store lays one byte.
use mathlib.Core.Path.{refl}
use lib.ListN.{length-set}
use Rattle.meaning.proofs.Over.{over_one}
use Rattle.text.proofs.Text.put_byte.Goals as goal

pub returns : goal.returns
returns c =
    let text = c.args.self.now in
    record { same_buffer = refl; room = length-set text.buffer.now text.used c.args.byte; ends = refl; written = over_one text.buffer.now text.used c.args.byte c.requires }
