-- The calls on headings, as they are run, ensure their promises and ask for nothing: that is what is proved of each function, with its promise written out.
-- A contract that says less, or that asks for something, is another statement than the one here. A function's name means a routine in an environment, and it
-- is so in each that has the function's code and the code of all that it calls.
use contract.Running.{within}
use prog.Routine.{Env}
use prog.Wired.{Wired}
use Rattle.meaning.specs.Functions.{Ensures}
use Rattle.headings.specs.Terms.{DegreeOfHeadings, Subterm, Nearer, Choose}
use Rattle.headings.specs.contracts.degree_of_headings as degree_of_headings
use Rattle.headings.proofs.degree_of_headings.Symbol as degree_of_headings_code
use Rattle.headings.proofs.degree_of_headings.Met as degree_of_headings_proof
use Rattle.headings.specs.contracts.subterm as subterm
use Rattle.headings.proofs.subterm.Symbol as subterm_code
use Rattle.headings.proofs.subterm.Met as subterm_proof
use Rattle.headings.specs.contracts.nearer as nearer
use Rattle.headings.proofs.nearer.Symbol as nearer_code
use Rattle.headings.proofs.nearer.Met as nearer_proof
use Rattle.headings.specs.contracts.choose as choose
use Rattle.headings.proofs.choose.Symbol as choose_code
use Rattle.headings.proofs.choose.Met as choose_proof

-- THEOREM: each call ensures its promise
pub heading_degree_ensures : {M : Type 1} (γ : Env) → Wired γ degree_of_headings_code.code
    → Ensures degree_of_headings.ended (γ degree_of_headings_code.name) (λ κs a r s. DegreeOfHeadings a.0.now a.1.0.now a.1.1.0.now r) M
heading_degree_ensures γ wired 𝓤 𝓛 𝓜 𝓡 = degree_of_headings_proof.met 𝓤 𝓛 𝓜 (within 𝓤 𝓛.H 𝓜 𝓡 γ) wired

pub subterm_ensures : {M : Type 1} (γ : Env) → Wired γ subterm_code.code → Ensures subterm.ended (γ subterm_code.name) (λ κs a r s. Subterm a.0.now a.1.0 a.1.1.0 r) M
subterm_ensures γ wired 𝓤 𝓛 𝓜 𝓡 = subterm_proof.met 𝓤 𝓛 𝓜 (within 𝓤 𝓛.H 𝓜 𝓡 γ) wired

pub nearer_ensures : {M : Type 1} (γ : Env) → Wired γ nearer_code.code
    → Ensures nearer.ended (γ nearer_code.name) (λ κs a r s. Nearer a.0.now a.1.0.now a.1.1.0 a.1.1.1.0 r) M
nearer_ensures γ wired 𝓤 𝓛 𝓜 𝓡 = nearer_proof.met 𝓤 𝓛 𝓜 (within 𝓤 𝓛.H 𝓜 𝓡 γ) wired

pub choose_ensures : {M : Type 1} (γ : Env) → Wired γ choose_code.code
    → Ensures choose.ended (γ choose_code.name) (λ κs a r s. Choose a.0.now a.1.0.now a.1.1.0.now a.1.1.1.0.now r) M
choose_ensures γ wired 𝓤 𝓛 𝓜 𝓡 = choose_proof.met 𝓤 𝓛 𝓜 (within 𝓤 𝓛.H 𝓜 𝓡 γ) wired
