-- Wrong programs that fail at what is said of exchange records: one that takes the last field or the last name, one that never sees dates, one that knows
-- strings where they are not listed, one that lets a string have the number of absent dates, one that looks at the record before the list, and one that writes
-- before it refuses. The record and the list are those of `RecordExample`.
use mathlib.Core.Path.{◌≡◌, refl, sym as inv, ap, ◌∙◌}
use mathlib.Core.List.{List, [], ◌∷◌}
use mathlib.Core.Option.{some as just, some-ne-none, some-injective}
use Prim.Native.Nat.{ℕ}
use native.Mathlib.Omega.{arith}
use lib.ListN.{get_or}
use Rattle.meaning.specs.Refusals.{refusal, number_of, first, row8-output}
use Rattle.meaning.specs.Calls.{refused, gives, aye, zeros}
use Rattle.marc.specs.Frame.{digits_at, value_at, fields_in, frame_rows}
use Rattle.marc.specs.Subfields.{text_of, subfield}
use Rattle.marc.specs.Known.{known_in, number_in, row19}
use Rattle.marc.specs.Heading.{first_with, field100, name_in, dates_in, row20, row21, row22, heading_rows, HeadedBy}
use Rattle.marc.specs.Plain.{record_of}
use Rattle.demands.specs.Program.{Program}
use Rattle.demands.specs.Demand1.{Demand1}
use Rattle.demands.specs.Further.{Further}
use Rattle.demands.proofs.Exact.{by_refusal, of_refusal, of_answer}
use Rattle.demands.proofs.RecordExample.{text, ends, numbers, bytes, answered}

-- what the program gives for the example's record, by a list with these ends and numbers
abbrev given : Program → List ℕ → List ℕ → HeadedBy
given P ends numbers = P.marc_heading bytes text ends numbers 0 4 (zeros 3)

-- ---- the three nodes (`RecordHeadings.as_written`)

-- THEOREM: the last 100 field, with name B and no dates
pub last_field_fails : (P : Program) → (given P ends numbers).output ≡ 0 ∷ 2 ∷ 4 ∷ [] → Further P → ⊥
last_field_fails P w f = omega (arith, ap (λ l. get_or l 1 0) (inv w ∙ (answered P f).1))

-- THEOREM: the last name of the first field
pub last_name_fails : (P : Program) → (given P ends numbers).output ≡ 0 ∷ 2 ∷ 3 ∷ [] → Further P → ⊥
last_name_fails P w f = omega (arith, ap (λ l. get_or l 1 0) (inv w ∙ (answered P f).1))

-- THEOREM: dates are never seen
pub no_dates_fails : (P : Program)
    → ((bytes text ends numbers : List ℕ) (heading absent : ℕ) (nodes : List ℕ) → (P.marc_heading bytes text ends numbers heading absent nodes).answer ≡ gives aye → get_or (P.marc_heading bytes text ends numbers heading absent nodes).output 2 0 ≡ absent)
    → Further P → ⊥
no_dates_fails P w f = let a = answered P f in omega (arith, w bytes text ends numbers 0 4 (zeros 3) a.0, ap (λ l. get_or l 2 0) a.1)

-- ---- refusals (`Demand1.marc_heading_lem`)

-- THEOREM: dates that are not listed are taken for absent ones: they are told by 22, at 1
pub unlisted_dates_fail : (P : Program) → (given P (1 ∷ 2 ∷ []) numbers).answer ≡ gives aye → Demand1 P → ⊥
unfolding
    heading_rows row19 row8-output frame_rows row20 row21 row22 record_of digits_at value_at fields_in first_with field100 name_in dates_in subfield text_of known_in number_in
unlisted_dates_fail P w d =
    let q : first (heading_rows bytes (known_in text (1 ∷ 2 ∷ []) numbers) 0 4 (zeros 3)) ≡ just (refusal 22 1) = refl in
    some-ne-none (refusal 22 1) (inv q ∙ of_answer _ _ (d.marc_heading_lem bytes text (1 ∷ 2 ∷ []) numbers 0 4 (zeros 3)) aye w)

-- THEOREM: a string has the number of absent dates: it is told by 19, at that entry
pub absent_given_fails : (P : Program) → (given P ends (1 ∷ 2 ∷ 4 ∷ [])).answer ≡ gives aye → Demand1 P → ⊥
unfolding heading_rows row19 known_in
absent_given_fails P w d =
    let q : first (heading_rows bytes (known_in text ends (1 ∷ 2 ∷ 4 ∷ [])) 0 4 (zeros 3)) ≡ just (refusal 19 2) = refl in
    some-ne-none (refusal 19 2) (inv q ∙ of_answer _ _ (d.marc_heading_lem bytes text ends (1 ∷ 2 ∷ 4 ∷ []) 0 4 (zeros 3)) aye w)

-- THEOREM: a record without bytes is told of, by 17, though the list has an empty string twice
pub record_first_fails : (P : Program) → (P.marc_heading [] [] (0 ∷ 0 ∷ []) numbers 0 4 (zeros 3)).answer ≡ refused 17 0 → Demand1 P → ⊥
unfolding heading_rows row19 known_in
record_first_fails P w d =
    let q : first (heading_rows [] (known_in [] (0 ∷ 0 ∷ []) numbers) 0 4 (zeros 3)) ≡ just (refusal 19 1) = refl in
    let e = inv q ∙ of_refusal _ _ (d.marc_heading_lem [] [] (0 ∷ 0 ∷ []) numbers 0 4 (zeros 3)) 17 0 w in
    omega (arith, ap number_of (some-injective (refusal 19 1) (refusal 17 0) e))

-- ---- what a refusal leaves (`Demand1.heading_leaves`)

-- THEOREM: the heading symbol is written in any case
pub writes_first_fails : (P : Program)
    → ((bytes text ends numbers : List ℕ) (heading absent : ℕ) (nodes : List ℕ) → get_or (P.marc_heading bytes text ends numbers heading absent nodes).output 0 0 ≡ heading) → Demand1 P → ⊥
unfolding heading_rows row19 row8-output frame_rows known_in
writes_first_fails P w d =
    let q : first (heading_rows [] (known_in text ends numbers) 1 4 (zeros 3)) ≡ just (refusal 17 0) = refl in
    let e = by_refusal _ _ (d.marc_heading_lem [] text ends numbers 1 4 (zeros 3)) 17 0 q in
    omega (arith, w [] text ends numbers 1 4 (zeros 3), ap (λ l. get_or l 0 0) ((d.heading_leaves [] text ends numbers 1 4 (zeros 3)).refusal_leaves 17 0 e))
