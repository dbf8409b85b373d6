-- The demands of what users run: results that the public promises allow are a program that keeps its promises, so that every demand holds of them.
use mathlib.Core.Path.{◌≡◌, refl, ap, ap₂, ◌∙◌}
use mathlib.Core.List.{List, [], ◌∷◌}
use Prim.Native.Nat.{ℕ}
use Rattle.theory.specs.Pairs.{Pair, pair}
use Rattle.meaning.specs.Calls.{match_call}
use Rattle.meaning.specs.Tables.{write_call}
use Rattle.meaning.specs.Saved.{widen_call}
use Rattle.records.specs.Records.{listed}
use Rattle.marc.specs.Known.{known_in}
use Rattle.marc.specs.Heading.{heading_call}
use Rattle.demands.specs.Program.{Promise}
use Rattle.demands.specs.Public.{Calls, Kept, records_of, program_of}
use Rattle.demands.specs.Demand1.{Demand1}
use Rattle.demands.specs.Demand2.{Demand2}
use Rattle.demands.specs.Demand3.{Demand3}
use Rattle.demands.specs.Further.{Further}
use Rattle.demands.proofs.Keeps.{keeps}

-- the records of pairs list just these
pub records_list : (pairs : List Pair) → listed (records_of pairs) ≡ pairs
records_list [] = refl
records_list (pair l h d ∷ pairs) = ap (λ ps. pair l h d ∷ ps) (records_list pairs)

module _ (C : Calls) (k : Kept C) where
  matches : (table pattern heading : List ℕ) (cut : ℕ) (spans sets : List ℕ)
      → (program_of C).match table pattern heading cut spans sets ≡ match_call table pattern heading cut spans sets
  matches table pattern heading cut spans sets =
      let p = k.match table pattern heading cut spans sets in
      λ i. record { answer = p.answers i; spans = p.spans_later i; sets = p.sets_later i }

  writes : (arities : List ℕ) (pairs : List Pair) (output : List ℕ) → (program_of C).write_table_lem arities pairs output ≡ write_call arities pairs output
  writes arities pairs output =
      let p = k.write_records_lem-is arities (records_of pairs) output in
      let e : listed (records_of pairs) ≡ pairs = records_list pairs in
      ap₂ (λ a l. record { answer = a; output = l }) p.answers p.leaves ∙ rw e

  widens : (words output : List ℕ) → (program_of C).widen words output ≡ widen_call words output
  widens words output = let p = k.widen words output in ap₂ (λ a l. record { answer = a; output = l }) p.answers p.leaves

  headings : (bytes text ends numbers : List ℕ) (heading absent : ℕ) (nodes : List ℕ)
      → (program_of C).marc_heading bytes text ends numbers heading absent nodes ≡ heading_call bytes (known_in text ends numbers) heading absent nodes
  headings bytes text ends numbers heading absent nodes =
      let p = k.marc_heading_lem bytes text ends numbers heading absent nodes in ap₂ (λ a l. record { answer = a; output = l }) p.answers p.leaves

  promise : Promise (program_of C)
  promise =
      record {
        is_table_lem-is = k.is_table_lem-is;
        symbol_degree_lem-is = k.symbol_degree_lem-is;
        heading_degree_lem = k.heading_degree_lem;
        subterm = k.subterm;
        nearer = k.nearer;
        match = matches;
        write_table_lem-is = writes;
        arity_of_lem-is = k.arity_of_lem-is;
        pair_of_lem = k.pair_of_lem;
        widen = widens;
        marc_heading_lem = headings;
      }

  -- THEOREM: whatever results the public promises allow, the demands hold of them
  pub users_have : Demand1 (program_of C) × Demand2 (program_of C) × Demand3 (program_of C) × Further (program_of C)
  users_have = keeps (program_of C) promise
