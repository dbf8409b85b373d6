-- The words that are read are those of h, and tell what its set has.
use Rattle.near.proofs.Laying.{words_hold}
use Rattle.near.proofs.set_of.Goals as goal

pub returns : goal.returns
returns c = let a = c.args in words_hold a.near.now a.h _ c.read.ensures
