-- The writer on records, as it is run, ensures its promise and asks for nothing: that is what is proved of the function, with its promise written out. A
-- contract that says less, or that asks for something, is another statement than the one here.
use prog.Routine.{Env}
use prog.Wired.{Wired}
use contract.Running.{within}
use Rattle.meaning.specs.Functions.{Ensures}
use Rattle.records.specs.Records.{WriteRecords}
use Rattle.records.specs.contracts.write_records as write_records_lem-is
use Rattle.records.proofs.write_records.Symbol as write-records-code
use Rattle.records.proofs.write_records.Met as write-records-proof

-- THEOREM: each call ensures its promise
pub write_records_ensures : {M : Type 1} (γ : Env) → Wired γ write-records-code.code → Ensures write_records_lem-is.ended (γ write-records-code.name) (λ κs a r s. WriteRecords a.0.now a.1.0.now a.1.1.0.now r s.1.1.0.now) M
write_records_ensures γ wired 𝓤 𝓛 𝓜 𝓡 = write-records-proof.met 𝓤 𝓛 𝓜 (within 𝓤 𝓛.H 𝓜 𝓡 γ) wired
