-- The number stands where the string is listed first.
use mathlib.Core.Path.{ap, ◌∙◌}
use native.Mathlib.Omega.{arith}
use Rattle.table.specs.Places.{place_in}
use Rattle.known_strings.proofs.Seeking.{found_at, found_inside, found_none}
use Rattle.known_strings.proofs.tested.Tested.number_of.Goals as goal

pub returns-in_err-place : goal.returns-in_err-place
returns-in_err-place c =
    let k = c.args.self.known in
    ap place_in c.from_residual.ensures ∙ found_none k.text.now k.ends.now k.numbers.now c.args.string.now c.in_err-place.ensures

pub offset_bounds-self-place : goal.offset_bounds-self-place
offset_bounds-self-place c =
    let k = c.args.self.known in
    omega (arith, found_inside k.text.now k.ends.now k.numbers.now c.args.string.now c.in_ok-place.place c.in_ok-place.ensures)

pub bounds-self-place : goal.bounds-self-place
bounds-self-place c =
    let k = c.args.self.known in
    found_inside k.text.now k.ends.now k.numbers.now c.args.string.now c.in_ok-place.place c.in_ok-place.ensures

pub returns : goal.returns
returns c =
    let k = c.args.self.known in
    found_at k.text.now k.ends.now k.numbers.now c.args.string.now c.in_ok-place.place c.in_ok-place.ensures
