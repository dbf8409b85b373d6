-- The part has as many nodes as its promise counts: the subterm ends within the list.
use Rattle.capi.proofs.Parts.{as_counted}
use Rattle.capi.proofs.term.shx_subterm.Goals as goal

pub returns : goal.returns
returns c = as_counted _ _ _ _ c.subterm.ensures
