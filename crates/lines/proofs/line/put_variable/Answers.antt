-- The letter is put before the number, with no space between; each part behind those before it.
use mathlib.Core.Path.{sym}
use Rattle.text.specs.Texts.{numeral}
use Rattle.lines.specs.Lines.{variable_line}
use Rattle.text.proofs.Puts.{put_then}
use Rattle.lines.proofs.line.put_variable.Goals as goal

pub returns : goal.returns
unfolding variable_line numeral
returns c =
    let span = c.span_at-span.ensures in
    rw (sym span.positions, sym span.lowest, sym span.highest) (put_then c.put_byte.ensures (put_then c.put_number.ensures.0 (put_then c.put_byte-2.ensures (put_then c.put_number-2.ensures.0 (put_then c.put_byte-3.ensures c.put_numbers.ensures)))))
