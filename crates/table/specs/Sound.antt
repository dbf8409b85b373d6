-- The table that a tested file holds.
use Rattle.theory.specs.Table.{Table}
use Rattle.meaning.specs.File.{table_in}
use Rattle.table.specs.declared.sound_table.SoundTable.{SoundTable}

abbrev pub table_of : SoundTable → Table
table_of t = table_in t.file.now
