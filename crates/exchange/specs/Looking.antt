-- The rows that are tested in a record and in its field, and what the code finds by them: the two numbers, or the first refusal.
use Rattle.std.specs.Prelude.{◌≡◌, List, [], ◌∷◌, ◌++◌, Result, Ok, Err, ℕ}
use Rattle.std.proofs.Math.Option.{none, some as just}
use Rattle.theory.specs.Least.{or_else}
use Rattle.meaning.specs.Refusals.{Row, row, at0, first}
use Rattle.marc.specs.Frame.{frame_rows, at_if}
use Rattle.marc.specs.Subfields.{subfield}
use Rattle.marc.specs.Known.{Known}
use Rattle.marc.specs.Heading.{code_a, code_d, missing, name_in, dates_in, unlisted, node_of, row20, row21, row22}
use Rattle.exchange.specs.Said.{told}
use Rattle.exchange.specs.declared.Fault.{Fault}
use Rattle.exchange.specs.declared.Numbers.{Numbers}

-- 21 and 22, of a field's bytes
unfoldable pub name_rows : List ℕ → List Known → List Row
name_rows content ks =
    row 21 (at0 (missing (subfield code_a content)))
    ∷ row 22 (or_else (at_if 0 (unlisted ks (subfield code_a content))) (at_if 1 (unlisted ks (subfield code_d content))))
    ∷ []

-- 17 and 20 to 22, of a record
unfoldable pub record_rows : List ℕ → List Known → List Row
record_rows r ks = frame_rows r ++ (row20 r ∷ row21 r ∷ row22 ks r ∷ [])

-- What is found: no row holds, and these are the two numbers; or the first row that holds.
abbrev pub Looks : List Row → ℕ → ℕ → Result Numbers Fault → Type 0
Looks rows name dates (Ok found) = (first rows ≡ none) × (found.name ≡ name) × (found.dates ≡ dates)
Looks rows name dates (Err why) = first rows ≡ just (told why)

abbrev pub FieldLooks : List ℕ → List Known → ℕ → Result Numbers Fault → Type 0
FieldLooks content ks absent = Looks (name_rows content ks) (node_of ks absent (subfield code_a content)) (node_of ks absent (subfield code_d content))

abbrev pub RecordLooks : List ℕ → List Known → ℕ → Result Numbers Fault → Type 0
RecordLooks r ks absent = Looks (record_rows r ks) (node_of ks absent (name_in r)) (node_of ks absent (dates_in r))
