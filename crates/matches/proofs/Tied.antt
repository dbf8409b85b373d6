-- The match, as it is run, ensures its promise and asks for nothing: that is what is proved of the function, with its promise written out. A contract that
-- says less, or that asks for something, is another statement than the one here. A function's name means a routine in an environment, and it is so in each
-- that has the function's code and the code of all that it calls.
use contract.Running.{within}
use prog.Routine.{Env}
use prog.Wired.{Wired}
use Rattle.meaning.specs.Functions.{Ensures}
use Rattle.matches.specs.Matching.{MatchHeading}
use Rattle.matches.specs.contracts.match_heading as match
use Rattle.matches.proofs.match_heading.Symbol as match_code
use Rattle.matches.proofs.match_heading.Met as match_proof

-- THEOREM: each call ensures its promise
pub match_ensures : {M : Type 1} (γ : Env) → Wired γ match_code.code
    → Ensures match.ended (γ match_code.name) (λ κs a r s. MatchHeading a.0.now a.1.0.now a.1.1.0.now a.1.1.1.0 a.1.1.1.1.0.now a.1.1.1.1.1.0.now r s.1.1.1.1.0.now s.1.1.1.1.1.0.now) M
match_ensures γ wired 𝓤 𝓛 𝓜 𝓡 = match_proof.met 𝓤 𝓛 𝓜 (within 𝓤 𝓛.H 𝓜 𝓡 γ) wired
