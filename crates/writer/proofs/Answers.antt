-- An answer and a later output that are the meaning's are the only ones, and what was written is a table that reads back: both are known of the
-- meaning. Said of any list of pairs, in whatever form a call takes them.
use mathlib.Core.Path.{◌≡◌, sym, ap, ap₂, ◌∙◌, subst}
use mathlib.Core.List.{List, ◌++◌}
use Prim.Native.Nat.{ℕ, ◌≤◌}
use lib.ListN.{length, drop}
use Rattle.std.specs.Prelude.{Result, Ok, Err}
use Rattle.theory.specs.Pairs.{Pair}
use Rattle.meaning.specs.File.{arities_in, pairs_in}
use Rattle.meaning.specs.Refusals.{SoundFile}
use Rattle.meaning.specs.Calls.{written, later_output}
use Rattle.meaning.specs.Tables.{Bytes, Writes}
use Rattle.meaning.proofs.RoundTrip.{round_trip}
use Rattle.refusal.specs.declared.Refusal.{Refusal}
use Rattle.refusal.proofs.One.{one_refusal, gives_none}
use Rattle.writer.specs.Said.{said}

pub one_said : (r s : Result ℕ Refusal) → said r ≡ said s → r ≡ s
one_said (Ok n) (Ok n') e = ap Ok (cc)
one_said (Ok n) (Err why) e = absurd (gives_none why _ (sym e))
one_said (Err why) (Ok n) e = absurd (gives_none why _ e)
one_said (Err why) (Err other) e = ap Err (one_refusal ℕ why other e)

-- LAW: what was written is a table, which reads back to the same arities and pairs; all else stays
pub read_back : (arities : List ℕ) (pairs : List Pair) (output : List ℕ) (r : Result ℕ Refusal) (later : List ℕ)
    → said r ≡ written arities pairs output → later ≡ later_output arities pairs output → Writes arities pairs output (record { answer = said r; output = later })
read_back arities pairs output r later e f =
    subst (λ w. Writes arities pairs output w) (ap₂ (λ a l. record { answer = a; output = l }) (sym e) (sym f)) (round_trip.read_written arities pairs output)

-- LAW: what was read from a table is written as the table's own bytes
pub written_again : (table output : List ℕ) → Bytes table → SoundFile table → length table ≤ length output → (pairs : List Pair) → pairs ≡ pairs_in table
    → (r : Result ℕ Refusal) (later : List ℕ) → said r ≡ written (arities_in table) pairs output → later ≡ later_output (arities_in table) pairs output
    → (r ≡ Ok (length table)) × (later ≡ table ++ drop (length table) output)
written_again table output b s l pairs same r later e f =
    let w = round_trip.written_read table output b s l in
    (one_said r (Ok (length table)) (e ∙ rw same w.taken), f ∙ rw same w.same_bytes)
