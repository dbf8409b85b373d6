-- The loop keeps where the terms that are to come end: where the subterm does. So each has a node in the list, and where none is to come the index is
-- the subterm's end.
use mathlib.Core.Path.{sym, ◌∙◌}
use native.Mathlib.Omega.{arith}
use Rattle.terms.proofs.Spans.{same_end, first_to_come, symbol_passed, other_passed, none_to_come}
use Rattle.terms.proofs.walk.end_from.Goals as goal

pub loop-to_come-init : goal.loop-to_come-init
loop-to_come-init c = first_to_come _ _ _ c.requires

pub loop-to_come-preserved-then-node-table : goal.loop-to_come-preserved-then-node-table
loop-to_come-preserved-then-node-table c = symbol_passed _ _ _ _ _ (omega arith) c.loop-to_come.invariant _ c.arity.ensures.0 (omega arith)

pub loop-to_come-preserved : goal.loop-to_come-preserved
loop-to_come-preserved c = other_passed _ _ _ _ _ (omega arith) c.loop-to_come.invariant (omega arith)

pub returns : goal.returns
returns c =
    let there = c.requires in
    let walked = none_to_come _ _ _ _ _ (omega arith) c.loop-to_come.invariant in
    let e = same_end _ _ (sym there.walked ∙ walked) in
    record { at_value = walked; lower_bound = (omega (arith, e, there.after), omega (arith, e, there.inside)) }
