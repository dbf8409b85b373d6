-- Sentences on two tables that one might wish for and that no program meets which keeps its promises: the lowest degree never falls, the highest never
-- rises, the arities need not agree. Each fails on one question, computed: a new pair lets in a form that is farther off; a raised degree brings a form
-- nearer; and with other arities the same two lists are other trees, of which a symbol now meets one that it did not meet before.
use mathlib.Core.Path.{◌≡◌, refl, ap, ◌∙◌}
use mathlib.Core.List.{List, [], ◌∷◌}
use Prim.Native.Nat.{ℕ, zero, suc, ◌≤◌, ◌<◌}
use native.Mathlib.Nat.{not-suc-le-zero}
use native.Mathlib.Omega.{arith}
use Rattle.theory.specs.Table.{Richer}
use Rattle.theory.specs.Read.{walk, several}
use Rattle.theory.specs.Decode.{pattern_of, term_of, parse, parse_row}
use Rattle.meaning.specs.File.{arities_in, pairs_in, table_in}
use Rattle.meaning.specs.Refusals.{row1_short, row1_offsets, row2, row3, row4, row5, row6, row7, row8, row9, row10, table_rows, SoundFile}
use Rattle.meaning.specs.Packing.{packed_count}
use Rattle.meaning.specs.Calls.{Answer, refused, gives, Degrees, degrees, faces_in, input_rows, search_rows, match_rows, matched}
use Rattle.meaning.specs.Demands.{Accepted}
use Rattle.meaning.specs.Tables.{arity_byte, KeptAs}
use Rattle.meaning.proofs.PairsKept.{made_richer}
use Rattle.demands.specs.Program.{Program, Promise}
use Rattle.demands.proofs.Lent.{no_spans, no_sets}

-- what a program answers, lent buffers that have room for four positions
abbrev answer_of : Program → List ℕ → List ℕ → List ℕ → ℕ → Answer Degrees
answer_of P table pattern heading cut = (P.match table pattern heading cut no_spans (no_sets 4)).answer

-- ---- the sentences

-- what is claimed of the degrees of two answers to one question, the second over a richer table
abbrev OfBoth : Program → (ℕ → ℕ → ℕ → ℕ → Type 0) → Type 0
OfBoth P Claim = (table₁ table₂ pattern heading : List ℕ) (cut low₁ high₁ low₂ high₂ : ℕ) → Richer (table_in table₁) (table_in table₂)
    → answer_of P table₁ pattern heading cut ≡ gives (degrees low₁ high₁) → answer_of P table₂ pattern heading cut ≡ gives (degrees low₂ high₂) → Claim low₁ high₁ low₂ high₂

abbrev LowestNeverFalls : Program → Type 0
LowestNeverFalls P = OfBoth P (λ low₁ high₁ low₂ high₂. low₁ ≤ low₂)

abbrev HighestNeverRises : Program → Type 0
HighestNeverRises P = OfBoth P (λ low₁ high₁ low₂ high₂. high₂ ≤ high₁)

-- as many symbols and no degree lower, but other arities: an answer stays one
abbrev AnyArities : Program → Type 0
AnyArities P = (table₁ table₂ pattern heading : List ℕ) (cut : ℕ) → (table_in table₁).size ≡ (table_in table₂).size → ((a b : ℕ) → (table_in table₁).deg a b ≤ (table_in table₂).deg a b)
    → Accepted table₁ pattern heading cut no_spans (no_sets 4) → Accepted table₂ pattern heading cut no_spans (no_sets 4)
    → (d : Degrees) → answer_of P table₁ pattern heading cut ≡ gives d → (e : Degrees) × (answer_of P table₂ pattern heading cut ≡ gives e)

-- ---- the tables

-- two constants, not near; the same two with degree 5, and with 7
abbrev pub apart : List ℕ
apart = 2 ∷ 0 ∷ 0 ∷ 0 ∷ 10 ∷ 0 ∷ 12 ∷ 0 ∷ 12 ∷ 0 ∷ 0 ∷ 0 ∷ []

abbrev pub near : ℕ → List ℕ
near d = 2 ∷ 0 ∷ 1 ∷ 0 ∷ 10 ∷ 0 ∷ 12 ∷ 0 ∷ 18 ∷ 0 ∷ 0 ∷ 0 ∷ 0 ∷ 0 ∷ 1 ∷ 0 ∷ d ∷ 0 ∷ []

-- four symbols, none near another: 0 of arity 2 and 3 a constant; 1 of arity 1 and 2 a constant, or the other way round
abbrev four : ℕ → ℕ → List ℕ
four a b = 4 ∷ 0 ∷ 0 ∷ 0 ∷ 10 ∷ 0 ∷ 14 ∷ 0 ∷ 14 ∷ 0 ∷ 2 ∷ a ∷ b ∷ 0 ∷ []

sound : SoundFile apart × SoundFile (near 5) × SoundFile (near 7)
unfolding table_rows row1_short row1_offsets row2 row3 row4 arities_in pairs_in
sound = (refl, refl, refl)

-- of both symbols
both : (P : ℕ → Type 0) → P 0 → P 1 → (a : ℕ) → a < 2 → P a
both P x y zero l = x
both P x y (suc zero) l = y
both P x y (suc (suc a)) l = absurd (omega arith)

-- a pair is added
pub added : Richer (table_in apart) (table_in (near 5))
added =
    (made_richer apart (near 5) sound.0 sound.1).1
    (record { as_many = refl; same_arities = both (λ a. arity_byte apart a ≡ arity_byte (near 5) a) refl refl; kept = λ k l. absurd (not-suc-le-zero l) })

-- a degree is raised
raised : Richer (table_in (near 5)) (table_in (near 7))
raised =
    (made_richer (near 5) (near 7) sound.1 sound.2).1
    (record { as_many = refl; same_arities = both (λ a. arity_byte (near 5) a ≡ arity_byte (near 7) a) refl refl; kept = kept })
  where
    kept : (k : ℕ) → k < 1 → (j : ℕ) × (j < 1) × KeptAs (near 5) (near 7) k j
    kept zero l = (0, l, record { same_lower = refl; same_higher = refl; not_lower = omega arith })
    kept (suc k) l = absurd (omega arith)

-- as many symbols, and no degree is lower: each symbol is near itself alone
as_near : ((table_in (four 1 0)).size ≡ (table_in (four 0 1)).size) × ((a b : ℕ) → (table_in (four 1 0)).deg a b ≤ (table_in (four 0 1)).deg a b)
unfolding table_in arities_in pairs_in
as_near = (refl, λ a b. omega arith)

-- ---- what is answered: x0 with 0 at cut 1; 1 with 0 at cut 5; 0(x0, 3) with 0(1(2), 3), which the other arities make 0(1, 2(3))

abbrev pattern : List ℕ
pattern = 0 ∷ 32768 ∷ 3 ∷ []

abbrev heading : List ℕ
heading = 0 ∷ 1 ∷ 2 ∷ 3 ∷ []

-- the answer of the meaning
abbrev meant_of : List ℕ → List ℕ → List ℕ → ℕ → Answer Degrees
meant_of table pattern heading cut = matched table pattern heading cut no_spans (no_sets 4)

computed : (meant_of apart (32768 ∷ []) (0 ∷ []) 1 ≡ gives (degrees 1000 1000)) × (meant_of (near 5) (32768 ∷ []) (0 ∷ []) 1 ≡ gives (degrees 5 1000))
    × (meant_of (near 5) (1 ∷ []) (0 ∷ []) 5 ≡ gives (degrees 5 5)) × (meant_of (near 7) (1 ∷ []) (0 ∷ []) 5 ≡ gives (degrees 7 7))
    × (meant_of (four 1 0) pattern heading 1000 ≡ gives (degrees 1000 1000))
    × (meant_of (four 0 1) pattern heading 1000 ≡ refused 9 2)
unfolding
    matched match_rows input_rows search_rows faces_in packed_count table_rows row1_short row1_offsets row2 row3 row4 row5 row6 row7 row8 row9 row10 table_in arities_in pairs_in
    pattern_of term_of parse parse_row walk several
computed = (refl, refl, refl, refl, refl, refl)

passed : Accepted (four 1 0) pattern heading 1000 no_spans (no_sets 4) × Accepted (four 0 1) pattern heading 1000 no_spans (no_sets 4)
unfolding input_rows table_rows row1_short row1_offsets row2 row3 row4 row5 row6 row7 row8 table_in arities_in pairs_in walk several
passed = (refl, refl)

module _ (P : Program) (keeps : Promise P) where
  answer_is : (table pattern heading : List ℕ) (cut : ℕ) {a : Answer Degrees} → meant_of table pattern heading cut ≡ a → answer_of P table pattern heading cut ≡ a
  answer_is table pattern heading cut e = ap (λ r. r.answer) (keeps.match table pattern heading cut no_spans (no_sets 4)) ∙ e

  -- THEOREM: the lowest degree falls from 1000 to 5
  pub lowest_falls : LowestNeverFalls P → ⊥
  lowest_falls never =
      omega (arith, never apart (near 5) (32768 ∷ []) (0 ∷ []) 1 1000 1000 5 1000 added (answer_is _ _ _ _ computed.0) (answer_is _ _ _ _ computed.1))

  -- THEOREM: the highest degree rises from 5 to 7
  pub highest-rises : HighestNeverRises P → ⊥
  highest-rises never =
      omega (arith, never (near 5) (near 7) (1 ∷ []) (0 ∷ []) 5 5 5 7 7 raised (answer_is _ _ _ _ computed.2) (answer_is _ _ _ _ computed.3))

  -- THEOREM: with other arities an answer is refused by 9
  pub other_arities_lose : AnyArities P → ⊥
  other_arities_lose any =
      let e = (any (four 1 0) (four 0 1) pattern heading 1000 as_near.0 as_near.1 passed.0 passed.1 (degrees 1000 1000) (answer_is _ _ _ _ computed.4)).1 in
      let f = answer_is _ _ _ _ computed.5 in
      let z : ◌≡◌ {A = ℕ} 0 1 = cc in
      omega arith
