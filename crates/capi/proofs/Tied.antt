-- The exports, as they are run, ensure their promises and ask for nothing: that is what is proved of each function, with its promise written out. A contract
-- that says less, or that asks for something, is another statement than the one here.
use contract.Running.{within}
use prog.Routine.{Env}
use prog.Wired.{Wired}
use Rattle.meaning.specs.Functions.{Ensures}
use Rattle.capi.specs.Tables.{ShxTable, ShxSymbolDegree, ShxArity, ShxPair}
use Rattle.capi.specs.Terms.{ShxHeadingDegree, ShxSubterm, ShxNearer}
use Rattle.capi.specs.Matching.{ShxMatch}
use Rattle.capi.specs.Writing.{ShxWriteTable}
use Rattle.capi.specs.Saving.{ShxWiden}
use Rattle.capi.specs.Marc.{ShxMarcHeading}
use Rattle.capi.specs.contracts.files.shx_table as table
use Rattle.capi.proofs.files.shx_table.Symbol as table-code
use Rattle.capi.proofs.files.shx_table.Met as table-proof
use Rattle.capi.specs.contracts.files.shx_symbol_degree as symbol_degree_lem-is
use Rattle.capi.proofs.files.shx_symbol_degree.Symbol as symbol-degree-code
use Rattle.capi.proofs.files.shx_symbol_degree.Met as symbol-degree-proof
use Rattle.capi.specs.contracts.files.shx_arity as arity
use Rattle.capi.proofs.files.shx_arity.Symbol as arity-code
use Rattle.capi.proofs.files.shx_arity.Met as arity-proof
use Rattle.capi.specs.contracts.files.shx_pair as pair
use Rattle.capi.proofs.files.shx_pair.Symbol as pair_code
use Rattle.capi.proofs.files.shx_pair.Met as pair-proof
use Rattle.capi.specs.contracts.term.shx_heading_degree as heading_degree_lem
use Rattle.capi.proofs.term.shx_heading_degree.Symbol as heading-degree-code
use Rattle.capi.proofs.term.shx_heading_degree.Met as heading-degree-proof
use Rattle.capi.specs.contracts.term.shx_subterm as subterm
use Rattle.capi.proofs.term.shx_subterm.Symbol as subterm-code
use Rattle.capi.proofs.term.shx_subterm.Met as subterm-proof
use Rattle.capi.specs.contracts.term.shx_nearer as nearer
use Rattle.capi.proofs.term.shx_nearer.Symbol as nearer-code
use Rattle.capi.proofs.term.shx_nearer.Met as nearer-proof
use Rattle.capi.specs.contracts.search.shx_match as match
use Rattle.capi.proofs.search.shx_match.Symbol as match-code
use Rattle.capi.proofs.search.shx_match.Met as match-proof
use Rattle.capi.specs.contracts.writing.shx_write_table as write_table_lem-is
use Rattle.capi.proofs.writing.shx_write_table.Symbol as write-table-code
use Rattle.capi.proofs.writing.shx_write_table.Met as write-table-proof
use Rattle.capi.specs.contracts.saving.shx_widen as widen
use Rattle.capi.proofs.saving.shx_widen.Symbol as widen-code
use Rattle.capi.proofs.saving.shx_widen.Met as widen-proof
use Rattle.capi.specs.contracts.heading.shx_marc_heading as marc_heading_lem
use Rattle.capi.proofs.heading.shx_marc_heading.Symbol as marc-heading-code
use Rattle.capi.proofs.heading.shx_marc_heading.Met as marc-heading-proof

-- THEOREM: each export ensures its promise
pub table_ensures : {M : Type 1} (γ : Env) → Wired γ table-code.code → Ensures table.ended (γ table-code.name) (λ κs a r s. ShxTable a.0.now r) M
table_ensures γ wired 𝓤 𝓛 𝓜 𝓡 = table-proof.met 𝓤 𝓛 𝓜 (within 𝓤 𝓛.H 𝓜 𝓡 γ) wired

pub symbol_degree_ensures : {M : Type 1} (γ : Env) → Wired γ symbol-degree-code.code → Ensures symbol_degree_lem-is.ended (γ symbol-degree-code.name) (λ κs a r s. ShxSymbolDegree a.0.now a.1.0 a.1.1.0 a.1.1.1.0.now r s.1.1.1.0.now) M
symbol_degree_ensures γ wired 𝓤 𝓛 𝓜 𝓡 = symbol-degree-proof.met 𝓤 𝓛 𝓜 (within 𝓤 𝓛.H 𝓜 𝓡 γ) wired

pub arity_ensures : {M : Type 1} (γ : Env) → Wired γ arity-code.code → Ensures arity.ended (γ arity-code.name) (λ κs a r s. ShxArity a.0.now a.1.0 a.1.1.0.now r s.1.1.0.now) M
arity_ensures γ wired 𝓤 𝓛 𝓜 𝓡 = arity-proof.met 𝓤 𝓛 𝓜 (within 𝓤 𝓛.H 𝓜 𝓡 γ) wired

pub pair_ensures : {M : Type 1} (γ : Env) → Wired γ pair_code.code → Ensures pair.ended (γ pair_code.name) (λ κs a r s. ShxPair a.0.now a.1.0 a.1.1.0.now a.1.1.1.0.now a.1.1.1.1.0.now r s.1.1.0.now s.1.1.1.0.now s.1.1.1.1.0.now) M
pair_ensures γ wired 𝓤 𝓛 𝓜 𝓡 = pair-proof.met 𝓤 𝓛 𝓜 (within 𝓤 𝓛.H 𝓜 𝓡 γ) wired

pub heading_degree_ensures : {M : Type 1} (γ : Env) → Wired γ heading-degree-code.code → Ensures heading_degree_lem.ended (γ heading-degree-code.name) (λ κs a r s. ShxHeadingDegree a.0.now a.1.0.now a.1.1.0.now a.1.1.1.0.now r s.1.1.1.0.now) M
heading_degree_ensures γ wired 𝓤 𝓛 𝓜 𝓡 = heading-degree-proof.met 𝓤 𝓛 𝓜 (within 𝓤 𝓛.H 𝓜 𝓡 γ) wired

pub subterm_ensures : {M : Type 1} (γ : Env) → Wired γ subterm-code.code → Ensures subterm.ended (γ subterm-code.name) (λ κs a r s. ShxSubterm a.0.now a.1.0.now a.1.1.0 r) M
subterm_ensures γ wired 𝓤 𝓛 𝓜 𝓡 = subterm-proof.met 𝓤 𝓛 𝓜 (within 𝓤 𝓛.H 𝓜 𝓡 γ) wired

pub nearer_ensures : {M : Type 1} (γ : Env) → Wired γ nearer-code.code → Ensures nearer.ended (γ nearer-code.name) (λ κs a r s. ShxNearer a.0.now a.1.0.now a.1.1.0.now a.1.1.1.0.now r) M
nearer_ensures γ wired 𝓤 𝓛 𝓜 𝓡 = nearer-proof.met 𝓤 𝓛 𝓜 (within 𝓤 𝓛.H 𝓜 𝓡 γ) wired

pub match_ensures : {M : Type 1} (γ : Env) → Wired γ match-code.code → Ensures match.ended (γ match-code.name) (λ κs a r s. ShxMatch a.0.now a.1.0.now a.1.1.0.now a.1.1.1.0 a.1.1.1.1.0.now a.1.1.1.1.1.0.now r s.1.1.1.1.0.now s.1.1.1.1.1.0.now s.1.1.1.1.1.1.0.now s.1.1.1.1.1.1.1.0.now) M
match_ensures γ wired 𝓤 𝓛 𝓜 𝓡 = match-proof.met 𝓤 𝓛 𝓜 (within 𝓤 𝓛.H 𝓜 𝓡 γ) wired

pub write_table_ensures : {M : Type 1} (γ : Env) → Wired γ write-table-code.code → Ensures write_table_lem-is.ended (γ write-table-code.name) (λ κs a r s. ShxWriteTable a.0.now a.1.0.now a.1.1.0.now a.1.1.1.0.now r s.1.1.0.now s.1.1.1.0.now) M
write_table_ensures γ wired 𝓤 𝓛 𝓜 𝓡 = write-table-proof.met 𝓤 𝓛 𝓜 (within 𝓤 𝓛.H 𝓜 𝓡 γ) wired

pub widen_ensures : {M : Type 1} (γ : Env) → Wired γ widen-code.code → Ensures widen.ended (γ widen-code.name) (λ κs a r s. ShxWiden a.0.now a.1.0.now a.1.1.0.now r s.1.0.now s.1.1.0.now) M
widen_ensures γ wired 𝓤 𝓛 𝓜 𝓡 = widen-proof.met 𝓤 𝓛 𝓜 (within 𝓤 𝓛.H 𝓜 𝓡 γ) wired

pub marc_heading_ensures : {M : Type 1} (γ : Env) → Wired γ marc-heading-code.code → Ensures marc_heading_lem.ended (γ marc-heading-code.name) (λ κs a r s. ShxMarcHeading a.0.now a.1.0.now a.1.1.0.now a.1.1.1.0.now a.1.1.1.1.0 a.1.1.1.1.1.0 a.1.1.1.1.1.1.0.now r s.1.1.1.1.1.1.0.now) M
marc_heading_ensures γ wired 𝓤 𝓛 𝓜 𝓡 = marc-heading-proof.met 𝓤 𝓛 𝓜 (within 𝓤 𝓛.H 𝓜 𝓡 γ) wired
