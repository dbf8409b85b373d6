-- The exports, as C runs them, ensure their promises and ask for nothing: that is what is proved of each function, with its promise written out. A contract
-- that says less, or that asks for something, is another statement than the one here.
use contract.Running.{within}
use prog.Routine.{Env}
use prog.Wired.{Wired}
use Rattle.meaning.specs.Functions.{Ensures}
use Rattle.capi.specs.Tables.{ShxTable, ShxSymbolDegree, ShxArity, ShxPair}
use Rattle.capi.specs.Terms.{ShxHeadingDegree, ShxSubterm, ShxNearer}
use Rattle.capi.specs.Matching.{ShxMatch}
use Rattle.capi.specs.Writing.{ShxWriteTable}
use Rattle.capi.specs.Saving.{ShxWiden}
use Rattle.capi.specs.Marc.{ShxMarcHeading}
use Rattle.capi_c.specs.contracts.shx_table as table
use Rattle.capi_c.proofs.shx_table.Symbol as table_code
use Rattle.capi_c.proofs.shx_table.Met as table_proof
use Rattle.capi_c.specs.contracts.shx_symbol_degree as symbol_degree
use Rattle.capi_c.proofs.shx_symbol_degree.Symbol as symbol_degree_code
use Rattle.capi_c.proofs.shx_symbol_degree.Met as symbol_degree_proof
use Rattle.capi_c.specs.contracts.shx_arity as arity
use Rattle.capi_c.proofs.shx_arity.Symbol as arity_code
use Rattle.capi_c.proofs.shx_arity.Met as arity_proof
use Rattle.capi_c.specs.contracts.shx_pair as pair
use Rattle.capi_c.proofs.shx_pair.Symbol as pair_code
use Rattle.capi_c.proofs.shx_pair.Met as pair_proof
use Rattle.capi_c.specs.contracts.shx_heading_degree as heading_degree
use Rattle.capi_c.proofs.shx_heading_degree.Symbol as heading_degree_code
use Rattle.capi_c.proofs.shx_heading_degree.Met as heading_degree_proof
use Rattle.capi_c.specs.contracts.shx_subterm as subterm
use Rattle.capi_c.proofs.shx_subterm.Symbol as subterm_code
use Rattle.capi_c.proofs.shx_subterm.Met as subterm_proof
use Rattle.capi_c.specs.contracts.shx_nearer as nearer
use Rattle.capi_c.proofs.shx_nearer.Symbol as nearer_code
use Rattle.capi_c.proofs.shx_nearer.Met as nearer_proof
use Rattle.capi_c.specs.contracts.shx_match as match
use Rattle.capi_c.proofs.shx_match.Symbol as match_code
use Rattle.capi_c.proofs.shx_match.Met as match_proof
use Rattle.capi_c.specs.contracts.shx_write_table as write_table
use Rattle.capi_c.proofs.shx_write_table.Symbol as write_table_code
use Rattle.capi_c.proofs.shx_write_table.Met as write_table_proof
use Rattle.capi_c.specs.contracts.shx_widen as widen
use Rattle.capi_c.proofs.shx_widen.Symbol as widen_code
use Rattle.capi_c.proofs.shx_widen.Met as widen_proof
use Rattle.capi_c.specs.contracts.shx_marc_heading as marc_heading
use Rattle.capi_c.proofs.shx_marc_heading.Symbol as marc_heading_code
use Rattle.capi_c.proofs.shx_marc_heading.Met as marc_heading_proof

-- THEOREM: each export ensures its promise
pub table_ensures : {M : Type 1} (γ : Env) → Wired γ table_code.code → Ensures table.ended (γ table_code.name) (λ κs a r s. ShxTable a.0.now r) M
table_ensures γ wired 𝓤 𝓛 𝓜 𝓡 = table_proof.met 𝓤 𝓛 𝓜 (within 𝓤 𝓛.H 𝓜 𝓡 γ) wired

pub symbol_degree_ensures : {M : Type 1} (γ : Env) → Wired γ symbol_degree_code.code → Ensures symbol_degree.ended (γ symbol_degree_code.name) (λ κs a r s. ShxSymbolDegree a.0.now a.1.0 a.1.1.0 a.1.1.1.0.now r s.1.1.1.0.now) M
symbol_degree_ensures γ wired 𝓤 𝓛 𝓜 𝓡 = symbol_degree_proof.met 𝓤 𝓛 𝓜 (within 𝓤 𝓛.H 𝓜 𝓡 γ) wired

pub arity_ensures : {M : Type 1} (γ : Env) → Wired γ arity_code.code → Ensures arity.ended (γ arity_code.name) (λ κs a r s. ShxArity a.0.now a.1.0 a.1.1.0.now r s.1.1.0.now) M
arity_ensures γ wired 𝓤 𝓛 𝓜 𝓡 = arity_proof.met 𝓤 𝓛 𝓜 (within 𝓤 𝓛.H 𝓜 𝓡 γ) wired

pub pair_ensures : {M : Type 1} (γ : Env) → Wired γ pair_code.code → Ensures pair.ended (γ pair_code.name) (λ κs a r s. ShxPair a.0.now a.1.0 a.1.1.0.now a.1.1.1.0.now a.1.1.1.1.0.now r s.1.1.0.now s.1.1.1.0.now s.1.1.1.1.0.now) M
pair_ensures γ wired 𝓤 𝓛 𝓜 𝓡 = pair_proof.met 𝓤 𝓛 𝓜 (within 𝓤 𝓛.H 𝓜 𝓡 γ) wired

pub heading_degree_ensures : {M : Type 1} (γ : Env) → Wired γ heading_degree_code.code → Ensures heading_degree.ended (γ heading_degree_code.name) (λ κs a r s. ShxHeadingDegree a.0.now a.1.0.now a.1.1.0.now a.1.1.1.0.now r s.1.1.1.0.now) M
heading_degree_ensures γ wired 𝓤 𝓛 𝓜 𝓡 = heading_degree_proof.met 𝓤 𝓛 𝓜 (within 𝓤 𝓛.H 𝓜 𝓡 γ) wired

pub subterm_ensures : {M : Type 1} (γ : Env) → Wired γ subterm_code.code → Ensures subterm.ended (γ subterm_code.name) (λ κs a r s. ShxSubterm a.0.now a.1.0.now a.1.1.0 r) M
subterm_ensures γ wired 𝓤 𝓛 𝓜 𝓡 = subterm_proof.met 𝓤 𝓛 𝓜 (within 𝓤 𝓛.H 𝓜 𝓡 γ) wired

pub nearer_ensures : {M : Type 1} (γ : Env) → Wired γ nearer_code.code → Ensures nearer.ended (γ nearer_code.name) (λ κs a r s. ShxNearer a.0.now a.1.0.now a.1.1.0.now a.1.1.1.0.now r) M
nearer_ensures γ wired 𝓤 𝓛 𝓜 𝓡 = nearer_proof.met 𝓤 𝓛 𝓜 (within 𝓤 𝓛.H 𝓜 𝓡 γ) wired

pub match_ensures : {M : Type 1} (γ : Env) → Wired γ match_code.code → Ensures match.ended (γ match_code.name) (λ κs a r s. ShxMatch a.0.now a.1.0.now a.1.1.0.now a.1.1.1.0 a.1.1.1.1.0.now a.1.1.1.1.1.0.now r s.1.1.1.1.0.now s.1.1.1.1.1.0.now s.1.1.1.1.1.1.0.now s.1.1.1.1.1.1.1.0.now) M
match_ensures γ wired 𝓤 𝓛 𝓜 𝓡 = match_proof.met 𝓤 𝓛 𝓜 (within 𝓤 𝓛.H 𝓜 𝓡 γ) wired

pub write_table_ensures : {M : Type 1} (γ : Env) → Wired γ write_table_code.code → Ensures write_table.ended (γ write_table_code.name) (λ κs a r s. ShxWriteTable a.0.now a.1.0.now a.1.1.0.now a.1.1.1.0.now r s.1.1.0.now s.1.1.1.0.now) M
write_table_ensures γ wired 𝓤 𝓛 𝓜 𝓡 = write_table_proof.met 𝓤 𝓛 𝓜 (within 𝓤 𝓛.H 𝓜 𝓡 γ) wired

pub widen_ensures : {M : Type 1} (γ : Env) → Wired γ widen_code.code → Ensures widen.ended (γ widen_code.name) (λ κs a r s. ShxWiden a.0.now a.1.0.now a.1.1.0.now r s.1.0.now s.1.1.0.now) M
widen_ensures γ wired 𝓤 𝓛 𝓜 𝓡 = widen_proof.met 𝓤 𝓛 𝓜 (within 𝓤 𝓛.H 𝓜 𝓡 γ) wired

pub marc_heading_ensures : {M : Type 1} (γ : Env) → Wired γ marc_heading_code.code → Ensures marc_heading.ended (γ marc_heading_code.name) (λ κs a r s. ShxMarcHeading a.0.now a.1.0.now a.1.1.0.now a.1.1.1.0.now a.1.1.1.1.0 a.1.1.1.1.1.0 a.1.1.1.1.1.1.0.now r s.1.1.1.1.1.1.0.now) M
marc_heading_ensures γ wired 𝓤 𝓛 𝓜 𝓡 = marc_heading_proof.met 𝓤 𝓛 𝓜 (within 𝓤 𝓛.H 𝓜 𝓡 γ) wired
