-- The wrong programs that document 01 names, and the demand at which each fails: what the listing asks has matchers, and two results that demand 2
-- allows agree in whether there is a match and in the degrees (meaning/proofs/Wrong).
use mathlib.Core.Path.{◌≡◌, refl}
use mathlib.Core.List.{List, [], ◌∷◌, ◌++◌}
use Prim.Native.Nat.{ℕ}
use Rattle.theory.specs.Pairs.{Pair}
use Rattle.theory.specs.Read.{walk, several}
use Rattle.meaning.specs.File.{arities_in, pairs_in, table_in}
use Rattle.meaning.specs.Refusals.{row1_short, row1_offsets, row2, row3, row4, row5, row6, row7, row8, table_rows}
use Rattle.meaning.specs.Calls.{refused, gives, degrees, Matched, zeros, input_rows, written}
use Rattle.meaning.specs.Demands.{Demand2 as MatchOf}
use Rattle.meaning.proofs.Examples.{T, arities, pairs, p, h}
use Rattle.meaning.proofs.Wrong.{always_nine, always_same, writes_nothing, first_only, invented, writer_writes_nothing}
use Rattle.demands.specs.Program.{Program}
use Rattle.demands.specs.Demand2.{Demand2}
use Rattle.demands.specs.Further.{Further}
use Rattle.demands.proofs.Lent.{no_spans, no_sets, image}

module _ (P : Program) where
  -- what the program gives to the listing's question at a cut
  abbrev listed : ℕ → Matched
  listed cut = P.match T p h cut no_spans (no_sets 5)

  module _ (d : Demand2 P) where
    demanded : MatchOf T p h 500 (listed 500) × MatchOf T p h 601 (listed 601) × MatchOf T p h 700 (listed 700)
    unfolding input_rows table_rows row1_short row1_offsets row2 row3 row4 row5 row6 row7 row8 table_in arities_in pairs_in walk several
    demanded = (
      d.match T p h 500 no_spans (no_sets 5) refl,
      d.match T p h 601 no_spans (no_sets 5) refl,
      d.match T p h 700 no_spans (no_sets 5) refl,
    )

    -- 1. it always says 9
    pub always_nine_fails : ((table pattern heading : List ℕ) (cut : ℕ) (spans sets : List ℕ) → (i : ℕ) × ((P.match table pattern heading cut spans sets).answer ≡ refused 9 i)) → ⊥
    always_nine_fails w = let r = w T p h 500 no_spans (no_sets 5) in always_nine (listed 500) r.0 r.1 demanded.0

    -- 2. it always gives the same sets, whatever the cut
    pub always_same_fails : ((table pattern heading : List ℕ) (cut cut' : ℕ) (spans sets : List ℕ)
        → ((P.match table pattern heading cut spans sets).spans ≡ (P.match table pattern heading cut' spans sets).spans)
        × ((P.match table pattern heading cut spans sets).sets ≡ (P.match table pattern heading cut' spans sets).sets))
        → ⊥
    always_same_fails w = let r = w T p h 500 700 no_spans (no_sets 5) in always_same (listed 500) (listed 700) r.0 r.1 demanded.0 demanded.2

    -- 3. it writes nothing
    pub writes_nothing_fails : ((table pattern heading : List ℕ) (cut : ℕ) (spans sets : List ℕ) → (P.match table pattern heading cut spans sets).spans ≡ spans) → ⊥
    writes_nothing_fails w = writes_nothing (listed 500) (w T p h 500 no_spans (no_sets 5)) demanded.0

    -- 4. of what faces a variable it sees the first alone: at 601 the listing's sets would be {1, 4} and {5, 7}
    pub first_only_fails : (listed 601).spans ≡ (0 ∷ 2 ∷ 500 ∷ 1000 ∷ []) ++ zeros 124 → (listed 601).sets ≡ image 18 ++ image 160 ++ no_sets 3 → ⊥
    first_only_fails e f = first_only (listed 601) e f demanded.1

    -- 5. its degrees are invented: the highest at 500 is not the best matcher's, 700
    pub invented_fails : (low high : ℕ) → (high ≡ 700 → ⊥) → (listed 500).answer ≡ gives (degrees low high) → ⊥
    invented_fails low high n e = invented (listed 500) low high e n demanded.0

  -- 6. its writer answers as it should and writes nothing
  pub writer_fails : Further P
      → ((arities : List ℕ) (pairs : List Pair) (output : List ℕ) → ((P.write_table_lem arities pairs output).answer ≡ written arities pairs output) × ((P.write_table_lem arities pairs output).output ≡ output))
      → ⊥
  writer_fails f w =
      let r = w arities pairs (zeros 66) in
      writer_writes_nothing (P.write_table_lem arities pairs (zeros 66)) r.0 r.1 (f.round_trip.read_written arities pairs (zeros 66))
