-- The call on exchange records, as it is run, ensures its promise and asks for nothing: that is what is proved of the function, with its promise written
-- out. A contract that says less, or that asks for something, is another statement than the one here. A function's name means a routine in an environment,
-- and it is so in each that has the function's code and the code of all that it calls.
use contract.Running.{within}
use prog.Routine.{Env}
use prog.Wired.{Wired}
use Rattle.meaning.specs.Functions.{Ensures}
use Rattle.exchange.specs.Heading.{ReadHeading}
use Rattle.exchange.specs.contracts.read_heading as read_heading
use Rattle.exchange.proofs.read_heading.Symbol as read_heading_code
use Rattle.exchange.proofs.read_heading.Met as read_heading_proof

-- THEOREM: each call ensures its promise
pub read_heading_ensures : {M : Type 1} (γ : Env) → Wired γ read_heading_code.code
    → Ensures read_heading.ended (γ read_heading_code.name)
    (λ κs a r s.
    ReadHeading a.0.now a.1.0.now a.1.1.0.now a.1.1.1.0.now a.1.1.1.1.0 a.1.1.1.1.1.0 a.1.1.1.1.1.1.0.now r s.1.1.1.1.1.1.0.now) M
read_heading_ensures γ wired 𝓤 𝓛 𝓜 𝓡 = read_heading_proof.met 𝓤 𝓛 𝓜 (within 𝓤 𝓛.H 𝓜 𝓡 γ) wired
