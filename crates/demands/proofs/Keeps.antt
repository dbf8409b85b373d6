-- The one theorem: a program that keeps its promises meets every demand. It is the meaning's program with its own two calls that hand a list back,
-- and of that each is proved.
use Rattle.demands.specs.Program.{Program, Promise}
use Rattle.demands.specs.Demand1.{Demand1}
use Rattle.demands.specs.Demand2.{Demand2}
use Rattle.demands.specs.Demand3.{Demand3}
use Rattle.demands.specs.Further.{Further}
use Rattle.demands.proofs.Meant.{handing, hands_back, carried}
use Rattle.demands.proofs.Demand1.{demand1}
use Rattle.demands.proofs.Demands.{demand2, demand3}
use Rattle.demands.proofs.Further.{further}

-- THEOREM
pub keeps : (P : Program) → Promise P → Demand1 P × Demand2 P × Demand3 P × Further P
keeps P k =
    let H = handing P in
    let h = hands_back P k in
    carried (λ P. Demand1 P × Demand2 P × Demand3 P × Further P) P k (demand1 H h, demand2 H, demand3 H, further H h)
