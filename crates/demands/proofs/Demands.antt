-- Demands 2 and 3 hold of the meaning's program: they are the meaning's demands on each of its calls, and on each two of them;
-- and what is drawn at two cuts follows.
use Rattle.meaning.proofs.Trees.{demand2_degree}
use Rattle.meaning.proofs.Matched.{demand2 as of_match}
use Rattle.meaning.proofs.Cuts.{demand3 as of_cuts}
use Rattle.demands.specs.Demand2.{Demand2}
use Rattle.demands.specs.Demand3.{Demand3}
use Rattle.demands.proofs.Meant.{Handing, meant}
use Rattle.demands.proofs.Drawn.{by_cuts}

-- THEOREM
pub demand2 : (H : Handing) → Demand2 (meant H)
demand2 H = record { degree = demand2_degree; match = of_match }

-- THEOREM
pub demand3 : (H : Handing) → Demand3 (meant H)
demand3 H = by_cuts (meant H) (demand2 H) of_cuts
