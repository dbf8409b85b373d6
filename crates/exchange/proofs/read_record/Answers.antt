-- The frame decides first, then whether there is a 100 field, then what it has.
use mathlib.Core.Path.{◌≡◌, sym}
use mathlib.Core.Option.{some as just}
use Rattle.marc.specs.Heading.{field100}
use Rattle.known_strings.specs.Lent.{listed}
use Rattle.exchange.specs.Looking.{record_rows}
use Rattle.exchange.specs.declared.Fault.TheVariants.{Frame, NoField}
use Rattle.exchange.proofs.Names.{fault_named, fault_of, value_of, leaves, no_frame, no_field, looks_in}
use Rattle.exchange.proofs.read_record.Goals as goal
use Rattle.exchange.proofs.read_record.Goals.{In_ok-frame}

-- the frame is that of the record
framed : (c : goal.In_ok-frame) → c.in_ok-frame.frame.bytes.now ≡ c.args.bytes.now
framed c = rw (value_of c.check_frame.result c.map_err.result Frame c.map_err.ensures.cases c.in_ok-frame.frame c.in_ok-frame.was) at c.check_frame.ensures

pub returns-in_err-frame : goal.returns-in_err-frame
returns-in_err-frame c =
    let r = c.args.bytes.now in
    let ks = listed c.args.tested.known in
    let f = fault_of c.check_frame.result c.map_err.result Frame c.map_err.ensures.cases c.in_err-frame.field-0.0 c.in_err-frame.was in
    leaves (record_rows r ks) _ _ c.in_err-frame.field-0.0 (Frame f.0) c.from_residual.result c.from_residual.ensures.1 f.2
    (no_frame r ks f.0 (rw f.1 at c.check_frame.ensures))

pub returns-in_err-field : goal.returns-in_err-field
returns-in_err-field c =
    let r = c.args.bytes.now in
    let ks = listed c.args.tested.known in
    let same = framed (goal.at.returns-in_err-field c).In_ok-frame in
    leaves (record_rows r ks) _ _ c.in_err-field.field-0.0 NoField c.from_residual-in_err-field.result c.from_residual-in_err-field.ensures.1
    (fault_named c.find_100.result c.in_err-field.field-0.0 NoField c.in_err-field.ensures.value)
    (rw (← same) (no_field c.in_ok-frame.frame.bytes.now ks c.in_ok-frame.frame.whole (sym (rw c.in_err-field.ensures.ok_part at c.find_100.ensures))))

pub returns : goal.returns
returns c =
    let ks = listed c.args.tested.known in
    let same = framed (goal.at.returns c).In_ok-frame in
    let field : field100 c.in_ok-frame.frame.bytes.now ≡ just c.in_ok-field.field.now = sym (rw c.in_ok-field.ensures.ok_part at c.find_100.ensures) in
    rw (← same) (looks_in c.in_ok-frame.frame.bytes.now ks c.in_ok-frame.frame.whole _ field c.args.tested.absent c.read_field.result c.read_field.ensures)
