-- The name decides first, then the dates.
use mathlib.Core.Path.{◌≡◌, sym}
use mathlib.Core.Option.{some as just}
use Rattle.marc.specs.Subfields.{subfield}
use Rattle.marc.specs.Known.{number_in}
use Rattle.marc.specs.Heading.{code_a, code_d}
use Rattle.known_strings.specs.Lent.{listed}
use Rattle.exchange.specs.Looking.{name_rows}
use Rattle.exchange.specs.declared.Fault.TheVariants.{NoName, UnlistedName, UnlistedDates}
use Rattle.exchange.proofs.Names.{fault_named, leaves, no_name, name_unlisted, no_dates, dates_unlisted, both_listed}
use Rattle.exchange.proofs.read_field.Goals as goal
use Rattle.exchange.proofs.read_field.Goals.{In_ok-name, In_ok-name-2, In-Some}

-- the name and its number, the dates
named : (c : goal.In_ok-name) → subfield code_a c.args.field.now ≡ just c.in_ok-name.name.now
named c = sym (rw c.in_ok-name.ensures.ok_part at c.find_text.ensures)

numbered : (c : goal.In_ok-name-2) → number_in (listed c.args.tested.known) c.in_ok-name.name.now ≡ just c.in_ok-name-2.name
numbered c = sym (rw c.in_ok-name-2.ensures.ok_part at c.number_of.ensures)

dated : (c : goal.In-Some) → subfield code_d c.args.field.now ≡ just c.in-Some.dates.now
dated c = sym c.in-Some.ensures

pub returns-in_err-name : goal.returns-in_err-name
returns-in_err-name c =
    let f = c.args.field.now in
    let ks = listed c.args.tested.known in
    leaves (name_rows f ks) _ _ c.in_err-name.field-0.0 NoName c.from_residual.result c.from_residual.ensures.1 (fault_named c.find_text.result c.in_err-name.field-0.0 NoName c.in_err-name.ensures.value)
    (no_name f ks (sym (rw c.in_err-name.ensures.ok_part at c.find_text.ensures)))

pub returns-in_err-name-2 : goal.returns-in_err-name-2
returns-in_err-name-2 c =
    let f = c.args.field.now in
    let ks = listed c.args.tested.known in
    let name = named (goal.at.returns-in_err-name-2 c).In_ok-name in
    leaves (name_rows f ks) _ _ c.in_err-name-2.field-0.0 UnlistedName c.from_residual-in_err-name-2.result c.from_residual-in_err-name-2.ensures.1 (fault_named c.number_of.result c.in_err-name-2.field-0.0 UnlistedName c.in_err-name-2.ensures.value)
    (name_unlisted f ks _ name (sym (rw c.in_err-name-2.ensures.ok_part at c.number_of.ensures)))

pub returns-in_err-dates-in-Some : goal.returns-in_err-dates-in-Some
returns-in_err-dates-in-Some c =
    let f = c.args.field.now in
    let ks = listed c.args.tested.known in
    let here = goal.at.returns-in_err-dates-in-Some c in
    let told = c.in_err-dates-in-Some.ensures in
    leaves (name_rows f ks) _ _ c.in_err-dates-in-Some.field-0.0 UnlistedDates c.from_residual-in_err-dates-in-Some.result c.from_residual-in_err-dates-in-Some.ensures.1 (fault_named c.number_of-in-Some.result c.in_err-dates-in-Some.field-0.0 UnlistedDates told.value)
    (dates_unlisted f ks _ (named here.In_ok-name) _ (numbered here.In_ok-name-2) _ (dated here.In-Some) (sym (rw told.ok_part at c.number_of-in-Some.ensures)))

pub returns-in_ok-dates-in-Some : goal.returns-in_ok-dates-in-Some
returns-in_ok-dates-in-Some c =
    let f = c.args.field.now in
    let ks = listed c.args.tested.known in
    let here = goal.at.returns-in_ok-dates-in-Some c in
    both_listed f ks _ (named here.In_ok-name) _ (numbered here.In_ok-name-2) _ (dated here.In-Some) c.args.tested.absent _ (sym (rw c.in_ok-dates-in-Some.ensures.ok_part at c.number_of-in-Some.ensures))

pub returns-in-None : goal.returns-in-None
returns-in-None c =
    let f = c.args.field.now in
    let ks = listed c.args.tested.known in
    let here = goal.at.returns-in-None c in
    no_dates f ks _ (named here.In_ok-name) _ (numbered here.In_ok-name-2) c.args.tested.absent (sym c.in-None.ensures)
