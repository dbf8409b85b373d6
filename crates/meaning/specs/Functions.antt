-- What it is for a function to keep a promise. Lent whatever can be lent to it, its code asks for nothing more, and once it has ended the promise holds of
-- what was lent, of the result, and of what lent memory holds then. It is so on every model of the machine that the logic has (`𝓤` to `𝓡`).
use seplogic.Ra.Ura.{Ura}
use base.Logic.{emp}
use prog.Routine.{Routine}
use prog.Model.{Model}
use types.Logic.{Logic}
use contract.Lifetimes.{Lfts}
use contract.Monad.{fact}
use contract.Running.{Running}
use denote.Triple.Clauses.{Ended, AtExit, Clauses, closing}
use denote.Triple.Entry.{Args, Res}
use denote.Triple.Spec.{Meets}

-- A promise of a function with this signature: of its arguments, its result, and its arguments at exit. (Of arguments a the first is `a.0`, the second
-- `a.1.0`, and so on.)
abbrev pub PromiseOf : Ended → Type 1
PromiseOf T = (κs : Lfts T.signature.lifetimes) (a : Args T.signature κs) → Res T.signature κs → AtExit T κs → Type 0

-- The contract that asks for nothing and ensures it.
abbrev pub contract_of : {M : Type 1} (𝓤 : Ura M) (T : Ended) → PromiseOf T → Clauses 𝓤 T
contract_of 𝓤 T Promise κs a = record { ghost = Unit {0}; requires = λ g. emp 𝓤; ensures = λ g r s. fact 𝓤 (Promise κs a r s) }

abbrev pub Ensures : (T : Ended) → Routine → PromiseOf T → Type 1 → Type 2
Ensures T code Promise M = (𝓤 : Ura M) (𝓛 : Logic 𝓤) (𝓜 : Model 𝓤 𝓛.H) (𝓡 : Running 𝓤 𝓛.H 𝓜)
    → Meets 𝓛 T.signature (𝓡.run code) (closing 𝓛 T (contract_of 𝓤 T Promise))
