-- The line of each case of a cursor, and the cursor after it.
use mathlib.Core.Path.{refl}
use Rattle.lines.specs.Lines.{line_at, next_cursor}
use Rattle.lines.proofs.line.next_line.Goals as goal

pub returns-in-First : goal.returns-in-First
unfolding line_at next_cursor
returns-in-First c = rw c.in-First.is (record { put = c.put_outcome.ensures; next_is = c.after_outcome.ensures })

pub returns-in-Variable : goal.returns-in-Variable
unfolding line_at next_cursor
returns-in-Variable c = rw c.in-Variable.is (record { put = c.put_variable.ensures; next_is = refl })

pub returns-in-Position : goal.returns-in-Position
unfolding line_at next_cursor
returns-in-Position c = rw c.in-Position.is (record { put = rw c.span_at.ensures.first at c.put_symbols.ensures; next_is = c.after_position.ensures })
