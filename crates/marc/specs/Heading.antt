-- The heading of a record: its first 100 field, the first subfields a and d of it, and their numbers.
use Rattle.std.specs.Prelude.{List, [], ◌∷◌, ◌++◌, Bool, true, false, cond, ℕ, drop}
use Rattle.std.proofs.Math.Option.{Option, none, some as just}
use Rattle.theory.specs.Least.{or_else}
use Rattle.meaning.specs.Refusals.{Refusal, Row, row, at0, first, row8-output}
use Rattle.meaning.specs.Calls.{Answer, Yes, aye, unless}
use Rattle.marc.specs.Frame.{Field, field, fields_in, frame_rows, at_if}
use Rattle.marc.specs.Subfields.{subfield}
use Rattle.marc.specs.Known.{Known, same, number_in, row19}

-- tag 100, codes a and d
abbrev pub tag100 : List ℕ
tag100 = 49 ∷ 48 ∷ 48 ∷ []

abbrev pub code_a : ℕ
code_a = 97

abbrev pub code_d : ℕ
code_d = 100

-- The bytes of the first field with that tag.
unfoldable pub first_with : List ℕ → List Field → Option (List ℕ)
first_with tag [] = none
first_with tag (field t content ∷ fs) = cond (same t tag) (just content) (first_with tag fs)

-- go on with what is there
abbrev pub then_in : {A : Type 0} → Option (List ℕ) → (List ℕ → Option A) → Option A
then_in none f = none
then_in (just x) f = f x

abbrev pub missing : {A : Type 0} → Option A → Bool
missing none = true
missing (just a) = false

abbrev pub number_or : ℕ → Option ℕ → ℕ
number_or n none = n
number_or n (just m) = m

-- The record's name and dates, as bytes.
unfoldable pub field100 : List ℕ → Option (List ℕ)
field100 r = first_with tag100 (fields_in r)

unfoldable pub name_in : List ℕ → Option (List ℕ)
name_in r = then_in (field100 r) (subfield code_a)

unfoldable pub dates_in : List ℕ → Option (List ℕ)
dates_in r = then_in (field100 r) (subfield code_d)

-- 20, 21, at 0: there is no field 100, no subfield a in it.
unfoldable pub row20 : List ℕ → Row
row20 r = row 20 (at0 (missing (field100 r)))

unfoldable pub row21 : List ℕ → Row
row21 r = row 21 (at0 (missing (name_in r)))

-- 22: a string is not listed; at 0 the name, at 1 the dates. Absent dates are no string.
abbrev pub unlisted : List Known → Option (List ℕ) → Bool
unlisted ks none = false
unlisted ks (just string) = missing (number_in ks string)

unfoldable pub row22 : List Known → List ℕ → Row
row22 ks r = row 22 (or_else (at_if 0 (unlisted ks (name_in r))) (at_if 1 (unlisted ks (dates_in r))))

-- The number of a string that is there and listed; another where it is not there.
abbrev pub node_of : List Known → ℕ → Option (List ℕ) → ℕ
node_of ks absent none = absent
node_of ks absent (just string) = number_or absent (number_in ks string)

-- What a call gives: its answer and what the output holds later.
pub record HeadedBy : Type 0 where
  pub answer : Answer Yes
  pub output : List ℕ

module _ (r : List ℕ) (ks : List Known) (heading absent : ℕ) (output : List ℕ) where
  unfoldable pub heading_rows : List Row
  heading_rows = row19 ks absent ∷ row8-output 3 output ∷ (frame_rows r ++ (row20 r ∷ row21 r ∷ row22 ks r ∷ []))

  -- the three nodes
  unfoldable pub heading_of : List ℕ
  heading_of = heading ∷ node_of ks absent (name_in r) ∷ node_of ks absent (dates_in r) ∷ []

  unfoldable pub headed : Answer Yes
  headed = unless (first heading_rows) aye

  abbrev pub written_unless : Option Refusal → List ℕ
  written_unless none = heading_of ++ drop 3 output
  written_unless (just why) = output

  unfoldable pub later_nodes : List ℕ
  later_nodes = written_unless (first heading_rows)

  abbrev pub heading_call : HeadedBy
  heading_call = record { answer = headed; output = later_nodes }
