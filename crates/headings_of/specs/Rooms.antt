-- How much room there is: for the lines that are said, and for what is read.
use Rattle.std.specs.Prelude.{ℕ}

-- No line with a record's number has more bytes, and no answer has.
abbrev pub record_room : ℕ
record_room = 28

abbrev pub answer_room : ℕ
answer_room = 35

-- A list's file has fewer bytes, and fewer lines.
abbrev pub list_room : ℕ
list_room = 1048576

abbrev pub lines_room : ℕ
lines_room = 349526

-- the buffer for records
abbrev pub input_room : ℕ
input_room = 262144
