-- The part of the buffer behind what stands there is written over.
use mathlib.Core.Path.{◌≡◌, refl, ap, ◌∙◌}
use Prim.Native.Nat.{◌+◌, ◌-◌}
use native.Mathlib.Omega.{arith}
use lib.ListN.{length}
use borrow.Rule.Slice.PartMut.{put_mid}
use Rattle.meaning.specs.Over.{over}
use Rattle.meaning.proofs.Over.{length_over}
use Rattle.text.proofs.Puts.{over_part}
use Rattle.text.proofs.Text.put_text.Goals as goal

pub returns : goal.returns
returns c =
    let text = c.args.self.now in
    let more = c.args.text.now in
    let k = text.used + length more - text.used in
    let laid : put_mid text.used k text.buffer.now c.copy_from_slice.new.self ≡ over text.buffer.now text.used more =
    over_part text.used k text.buffer.now c.copy_from_slice.new.self more c.copy_from_slice.ensures.after (omega arith) in
    record { same_buffer = refl; room = ap length laid ∙ length_over text.buffer.now text.used more c.requires; ends = refl; written = laid }
