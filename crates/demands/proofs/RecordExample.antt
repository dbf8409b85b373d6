-- A record as one would write it, for examples and for wrong programs: a field 001, then two fields 100, of which the first has the name A, the dates 1 and a
-- second name B, and the other the name B. The list has A, B and 1, with the numbers 1, 2 and 3; 4 stands for absent dates, 0 is the heading symbol.
use mathlib.Core.Path.{◌≡◌, refl, ap}
use mathlib.Core.List.{List, [], ◌∷◌}
use mathlib.Core.Option.{none}
use Prim.Native.Nat.{ℕ, zero, suc, ◌<◌}
use native.Mathlib.Omega.{arith}
use lib.Dec.{lit<, lit≤}
use lib.ListN.{get_or, replicate}
use Rattle.meaning.specs.Refusals.{row_place}
use Rattle.meaning.specs.Calls.{gives, aye, zeros}
use Rattle.marc.specs.Frame.{Field, field}
use Rattle.marc.specs.Known.{Known, known_in, number_in, row19}
use Rattle.marc.specs.Heading.{tag100, code_a, code_d}
use Rattle.marc.specs.Plain.{tag_of, record_of, Holds, Subfield, coded, subfields_bytes}
use Rattle.marc.specs.Reading.{Listed, FineList, Wrote100}
use Rattle.marc.proofs.Strings.{is_listed, none_unfit}
use Rattle.demands.specs.Program.{Program}
use Rattle.demands.specs.Further.{Further}

-- ---- what is lent

abbrev pub text : List ℕ
text = 65 ∷ 66 ∷ 49 ∷ []

abbrev pub ends : List ℕ
ends = 1 ∷ 2 ∷ 3 ∷ []

abbrev pub numbers : List ℕ
numbers = 1 ∷ 2 ∷ 3 ∷ []

abbrev ks : List Known
ks = known_in text ends numbers

abbrev subfields : List Subfield
subfields = coded code_a (65 ∷ []) ∷ coded code_d (49 ∷ []) ∷ coded code_a (66 ∷ []) ∷ []

abbrev fields : List Field
fields =
    field (48 ∷ 48 ∷ 49 ∷ []) (120 ∷ [])
    ∷ field tag100 (49 ∷ 32 ∷ subfields_bytes subfields)
    ∷ field tag100 (49 ∷ 32 ∷ subfields_bytes (coded code_a (66 ∷ []) ∷ []))
    ∷ []

abbrev blanks : List ℕ
blanks = replicate 7 32

abbrev pub bytes : List ℕ
bytes = record_of blanks blanks fields

-- one with the name A and no dates
abbrev pub undated : List ℕ
undated = record_of blanks blanks (field tag100 (49 ∷ 32 ∷ subfields_bytes (coded code_a (65 ∷ []) ∷ [])) ∷ [])

-- ---- it is one that the statement on written records speaks of

pub holds : Holds blanks blanks fields
holds =
    record {
      seven = refl;
      seven_more = refl;
      each = (record { tag_is = refl; short = lit≤ tt }, (record { tag_is = refl; short = lit≤ tt }, (record { tag_is = refl; short = lit≤ tt }, tt)));
      short = lit≤ tt;
    }

pub wrote : Wrote100 fields subfields
wrote =
    record {
      one = 49;
      two = 32;
      between = [];
      unmarked = tt;
      fine = (((λ e. omega arith), ((λ e. omega arith), tt)), (((λ e. omega arith), ((λ e. omega arith), tt)), (((λ e. omega arith), ((λ e. omega arith), tt)), tt)));
      first_100 = record { index = 1; inside = lit< tt; is = refl; none_before = before };
    }
  where
    before : (k : ℕ) → k < 1 → tag_of (get_or fields k (field [] [])) ≡ tag100 → ⊥
    before zero l e = omega (arith, ap (λ t. get_or t 0 0) e)
    before (suc k) l e = omega arith

silent : row_place (row19 ks 4) ≡ none
unfolding known_in row19
silent = refl

pub fine : FineList ks 4
fine = none_unfit ks 4 silent

pub name_listed : Listed ks (65 ∷ []) 1
unfolding known_in number_in
name_listed = is_listed ks 4 silent (65 ∷ []) 1 refl

pub dates_listed : Listed ks (49 ∷ []) 3
unfolding known_in number_in
dates_listed = is_listed ks 4 silent (49 ∷ []) 3 refl

-- LAW: so a program that meets the statements answers with 0, 1 and 3
pub answered : (P : Program) → Further P → let given = P.marc_heading bytes text ends numbers 0 4 (zeros 3) in (given.answer ≡ gives aye) × (given.output ≡ 0 ∷ 1 ∷ 3 ∷ [])
answered P f = f.record_headings.as_written text ends numbers blanks blanks fields holds subfields wrote 4 fine (65 ∷ []) refl 1 name_listed 3 dates_listed 0 (zeros 3) (lit≤ tt)
