-- The frame is whole, so the entry's numbers are numbers, and its field lies inside.
use Rattle.std.proofs.Common.{◌≡◌, ap₂, ◌+◌, ◌-◌, take, drop, arith}
use Rattle.marc.specs.Frame.{entry_at, field_at, field_length}
use Rattle.marc.specs.Reading.{FieldStands}
use Rattle.marc.proofs.Frames.{framed}
use Rattle.marc_record.proofs.Numbers.{NumberAt, number_stands, is_number}
use Rattle.marc_record.proofs.frame.Frame.field.Goals as goal
use Rattle.marc_record.proofs.frame.Frame.field.Goals.{After-number, After-number-2, After-unwrap}

length_stands : (c : After-number) → NumberAt c.args.self.bytes.now (entry_at c.args.e + 3) 4 c.number.result
length_stands c = number_stands c.args.self.bytes.now (entry_at c.args.e + 3) 4 _ (omega arith) (omega arith) c.number.result c.number.ensures

start_stands : (c : After-number-2) → NumberAt c.args.self.bytes.now (entry_at c.args.e + 7) 5 c.number-2.result
start_stands c = number_stands c.args.self.bytes.now (entry_at c.args.e + 7) 5 _ (omega arith) (omega arith) c.number-2.result c.number-2.ensures

-- where the field begins, and how long it is, with its mark
record Read (c : After-unwrap) : Type 0 where
  pub start : c.args.self.base + c.unwrap.result ≡ field_at c.args.self.bytes.now c.args.e
  pub length : c.unwrap-length.result ≡ field_length c.args.self.bytes.now c.args.e
  pub stands : FieldStands c.args.self.bytes.now c.args.e

read : (c : After-unwrap) → Read c
read c =
    let before = goal.at.After-unwrap c in
    let start = rw c.unwrap.ensures at (start_stands before.After-number-2) in
    let long = rw c.unwrap-length.ensures at (length_stands before.After-number) in
    record { start = omega (arith, start.1, c.args.self.base_is); length = long.1; stands = (framed c.args.self.bytes.now c.args.self.whole).each c.args.e c.requires }

pub unwrap-length-requires : goal.unwrap-length-requires
unwrap-length-requires c =
    let field = (framed c.args.self.bytes.now c.args.self.whole).each c.args.e c.requires in
    is_number c.args.self.bytes.now (entry_at c.args.e + 3) 4 c.number.result (length_stands c) field.length_digits

pub unwrap-requires : goal.unwrap-requires
unwrap-requires c =
    let field = (framed c.args.self.bytes.now c.args.self.whole).each c.args.e c.requires in
    is_number c.args.self.bytes.now (entry_at c.args.e + 7) 5 c.number-2.result (start_stands c) field.start_digits

pub slice_bounds-result-count : goal.slice_bounds-result-count
slice_bounds-result-count c = let f = read (goal.at.slice_bounds-result-count c).After-unwrap in omega (arith, f.length, f.stands.not_empty)

pub slice_bounds-result-start : goal.slice_bounds-result-start
slice_bounds-result-start c = let f = read (goal.at.slice_bounds-result-start c).After-unwrap in omega (arith, f.length, f.stands.not_empty)

pub slice_bounds-result-end : goal.slice_bounds-result-end
slice_bounds-result-end c = let f = read (goal.at.slice_bounds-result-end c).After-unwrap in omega (arith, f.start, f.length, f.stands.before_last)

pub returns : goal.returns
returns c =
    let f = read (goal.at.returns c).After-unwrap in
    let many : c.args.self.base + c.unwrap.result + c.unwrap-length.result - 1 - (c.args.self.base + c.unwrap.result) ≡ field_length c.args.self.bytes.now c.args.e - 1 = omega (arith, f.length, f.stands.not_empty) in
    ap₂ (λ n at. take n (drop at c.args.self.bytes.now)) many f.start
