-- The calls on tables, as they are run, ensure their promises and ask for nothing: that is what is proved of each function, with its promise written out. A
-- contract that says less, or that asks for something, is another statement than the one here. A function's name means a routine in an environment, and it is
-- so in each that has the function's code and the code of all that it calls.
use contract.Running.{within}
use prog.Routine.{Env}
use prog.Wired.{Wired}
use Rattle.meaning.specs.Functions.{Ensures}
use Rattle.tables.specs.Tables.{IsTable, SymbolDegree, ArityOf, PairAt}
use Rattle.tables.specs.Writing.{WriteTable}
use Rattle.tables.specs.contracts.is_table as is_table
use Rattle.tables.proofs.is_table.Symbol as is_table_code
use Rattle.tables.proofs.is_table.Met as is_table_proof
use Rattle.tables.specs.contracts.symbol_degree as symbol_degree
use Rattle.tables.proofs.symbol_degree.Symbol as symbol_degree_code
use Rattle.tables.proofs.symbol_degree.Met as symbol_degree_proof
use Rattle.tables.specs.contracts.arity_of as arity_of
use Rattle.tables.proofs.arity_of.Symbol as arity_of_code
use Rattle.tables.proofs.arity_of.Met as arity_of_proof
use Rattle.tables.specs.contracts.pair_of as pair_of
use Rattle.tables.proofs.pair_of.Symbol as pair_of_code
use Rattle.tables.proofs.pair_of.Met as pair_of_proof
use Rattle.tables.specs.contracts.writing.write_table as write_table
use Rattle.tables.proofs.writing.write_table.Symbol as write_table_code
use Rattle.tables.proofs.writing.write_table.Met as write_table_proof

-- THEOREM: each call ensures its promise
pub is_table_ensures : {M : Type 1} (γ : Env) → Wired γ is_table_code.code → Ensures is_table.ended (γ is_table_code.name) (λ κs a r s. IsTable a.0.now r) M
is_table_ensures γ wired 𝓤 𝓛 𝓜 𝓡 = is_table_proof.met 𝓤 𝓛 𝓜 (within 𝓤 𝓛.H 𝓜 𝓡 γ) wired

pub symbol_degree_ensures : {M : Type 1} (γ : Env) → Wired γ symbol_degree_code.code
    → Ensures symbol_degree.ended (γ symbol_degree_code.name) (λ κs a r s. SymbolDegree a.0.now a.1.0 a.1.1.0 r) M
symbol_degree_ensures γ wired 𝓤 𝓛 𝓜 𝓡 = symbol_degree_proof.met 𝓤 𝓛 𝓜 (within 𝓤 𝓛.H 𝓜 𝓡 γ) wired

pub arity_of_ensures : {M : Type 1} (γ : Env) → Wired γ arity_of_code.code → Ensures arity_of.ended (γ arity_of_code.name) (λ κs a r s. ArityOf a.0.now a.1.0 r) M
arity_of_ensures γ wired 𝓤 𝓛 𝓜 𝓡 = arity_of_proof.met 𝓤 𝓛 𝓜 (within 𝓤 𝓛.H 𝓜 𝓡 γ) wired

pub pair_of_ensures : {M : Type 1} (γ : Env) → Wired γ pair_of_code.code → Ensures pair_of.ended (γ pair_of_code.name) (λ κs a r s. PairAt a.0.now a.1.0 r) M
pair_of_ensures γ wired 𝓤 𝓛 𝓜 𝓡 = pair_of_proof.met 𝓤 𝓛 𝓜 (within 𝓤 𝓛.H 𝓜 𝓡 γ) wired

pub write_table_ensures : {M : Type 1} (γ : Env) → Wired γ write_table_code.code
    → Ensures write_table.ended (γ write_table_code.name) (λ κs a r s. WriteTable a.0.now a.1.0.now a.1.1.0.now r s.1.1.0.now) M
write_table_ensures γ wired 𝓤 𝓛 𝓜 𝓡 = write_table_proof.met 𝓤 𝓛 𝓜 (within 𝓤 𝓛.H 𝓜 𝓡 γ) wired
