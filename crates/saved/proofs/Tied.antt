-- The converter, as it is run, ensures its promise and asks for nothing: that is what is proved of the function, with its promise written out. A contract that
-- says less, or that asks for something, is another statement than the one here.
use prog.Routine.{Env}
use prog.Wired.{Wired}
use contract.Running.{within}
use Rattle.meaning.specs.Functions.{Ensures}
use Rattle.saved.specs.Widening.{Widen}
use Rattle.saved.specs.contracts.widen as widen
use Rattle.saved.proofs.widen.Symbol as widen-code
use Rattle.saved.proofs.widen.Met as widen-proof

-- THEOREM: each call ensures its promise
pub widen_ensures : {M : Type 1} (γ : Env) → Wired γ widen-code.code → Ensures widen.ended (γ widen-code.name) (λ κs a r s. Widen a.0.now a.1.0.now r s.1.0.now) M
widen_ensures γ wired 𝓤 𝓛 𝓜 𝓡 = widen-proof.met 𝓤 𝓛 𝓜 (within 𝓤 𝓛.H 𝓜 𝓡 γ) wired
