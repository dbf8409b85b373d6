-- The degrees are laid out in memory of their own, copied to the symbol's place, and the tag tells it then.
use Rattle.std.proofs.Common.{rules, arith, ◌≡◌, ◌+◌, ◌-◌, ◌%◌, ◌≤◌, ◌<◌, length}
use Rattle.meaning.specs.File.{table_in}
use Rattle.wide.specs.Index.{kept_rows}
use borrow.Rule.Slice.PartMut.{put_mid}
use Rattle.wide.proofs.Written.{Written, written}
use Rattle.wide.proofs.Keeping.{place_within, degrees_there, chained_more}
use Rattle.wide.proofs.kept.keep_row.Goals as goal
use Rattle.wide.proofs.kept.keep_row.Goals.{Start}

-- the place is within the list
within : (s : Start) → s.args.from + (table_in s.args.table.file.now).size ≤ length s.args.index.now
within s = omega (arith, s.requires.tag_value.1, place_within s.args.table.file.now s.args.index.now s.requires.chained.1 s.requires.chained.0.0.room (s.args.a % kept_rows) (omega arith))

pub slice_bounds-copy_from_slice-end : goal.slice_bounds-copy_from_slice-end
slice_bounds-copy_from_slice-end c = omega (arith, within (goal.at.slice_bounds-copy_from_slice-end c).Start, c.args.table.symbols_are)

pub returns : goal.returns
returns c =
    let t = c.args.table in
    let a = c.args in
    let row = c.lay_degrees.new.row in
    let many : length row ≡ (table_in t.file.now).size = search rules in
    let place = within (goal.at.returns c).Start in
    let k = a.from + t.symbols - a.from in
    let copied = put_mid a.from k a.index.now row in
    let copy : Written a.from (table_in t.file.now).size row a.index.now copied = written a.from (table_in t.file.now).size k row a.index.now (omega (arith, t.symbols_are)) place many in
    let there : a.tag < length copied = omega (arith, place, c.requires.tag_value, copy.long) in
    rw c.copy_from_slice.ensures.after (
      chained_more t.file.now t.sound a.a a.tag a.from c.requires.tag_value.0 c.requires.tag_value.1 row a.index.now copied c.lay_degrees.ensures copy there copy.long c.requires.chained.0,
      degrees_there t.file.now t.sound a.a a.tag a.from c.requires.tag_value.0 c.requires.tag_value.1 row a.index.now copied c.lay_degrees.ensures copy there,
    )
