-- The first arity that is too high stands at the least such symbol.
use Rattle.std.proofs.Common.{rules, tests}
use mathlib.Core.Path.{◌≡◌, ap, ◌∙◌, sym}
use lib.Dec.{ltb}
use Rattle.std.specs.List.{position}
use Rattle.std.proofs.lemmas.Iterator.{YieldsList-from_slice}
use Rattle.std.proofs.lemmas.Iterator.Search.{position_from_yields_List}
use Rattle.meaning.specs.Refusals.{row, row3}
use Rattle.table.specs.Places.{place_in}
use Rattle.table.proofs.Places.{least_position}
use Rattle.table.proofs.rules.high_arity.Goals as goal

pub returns : goal.returns
unfolding row3
returns c =
    let found : c.position.result ≡ position (ltb 8) c.args.arities.now =
    position_from_yields_List (ltb 8) _ _ c.position.result c.position.ensures.ran (YieldsList-from_slice c.args.arities.now cc) (λ x b q k. search (rules, tests)) in
    ap (row 3) (least_position (ltb 8) c.args.arities.now ∙ ap place_in (sym found))
