-- What the rows of a field and of a record say, by what was found in it.
use mathlib.Core.Path.{◌≡◌, refl, sym as inv, ap, ◌∙◌}
use mathlib.Core.List.{List, [], ◌∷◌}
use mathlib.Core.Option.{none, some as just}
use Rattle.std.specs.Prelude.{Option, Some, None, Result, Ok, Err, MatchResult, ok_or}
use Rattle.std.specs.Result.{IsErrAnd}
use Prim.Native.Nat.{ℕ}
use Rattle.meaning.specs.Refusals.{Row, refusal, first}
use Rattle.meaning.proofs.First.{first-append}
use Rattle.meaning.proofs.Compose.{first_stays}
use Rattle.marc.specs.Frame.{frame_rows}
use Rattle.marc.specs.Subfields.{subfield}
use Rattle.marc.specs.Known.{Known, number_in}
use Rattle.marc.specs.Heading.{code_a, code_d, field100, name_in, dates_in, node_of, row20, row21, row22}
use Rattle.exchange.specs.Said.{told}
use Rattle.exchange.specs.Looking.{name_rows, record_rows, Looks, FieldLooks, RecordLooks}
use Rattle.exchange.specs.declared.Fault.{Fault}
use Rattle.exchange.specs.declared.Numbers.{Numbers}

-- ---- what leaves by `?`

-- LAW: with its fault, where something is not found
pub fault_named : {A : Type 0} (found : Option A) (why fault : Fault) → Err why ≡ ok_or found fault → why ≡ fault
fault_named (Some x) why fault e = absurd (cc)
fault_named None why fault e = cc

module _ {A : Type 0} (r : Result A ℕ) (m : Result A Fault) (named : ℕ → Fault) (mapped : MatchResult r (λ x. m ≡ Ok x) (λ e. IsErrAnd m (λ f. f ≡ named e))) where
  -- LAW: with the fault that is made of the place; and what goes on is what was there
  pub fault_of : (why : Fault) → m ≡ Err why → (place : ℕ) × (r ≡ Err place) × (why ≡ named place)
  fault_of why e = go r mapped
    where
      go : (r : Result A ℕ) → MatchResult r (λ x. m ≡ Ok x) (λ e. IsErrAnd m (λ f. f ≡ named e)) → (place : ℕ) × (r ≡ Err place) × (why ≡ named place)
      go (Ok x) h = absurd (cc)
      go (Err place) h = (place, refl, rw e at h)

  pub value_of : (x : A) → m ≡ Ok x → r ≡ Ok x
  value_of x e = go r mapped
    where
      go : (r : Result A ℕ) → MatchResult r (λ x. m ≡ Ok x) (λ e. IsErrAnd m (λ f. f ≡ named e)) → r ≡ Ok x
      go (Ok y) h = cc
      go (Err place) h = absurd (rw e at h)

-- LAW: it is the first row that holds
pub leaves : (rows : List Row) (name dates : ℕ) (why fault : Fault) (r : Result Numbers Fault)
    → IsErrAnd r (λ e. e ≡ why) → why ≡ fault → first rows ≡ just (told fault) → Looks rows name dates r
leaves rows name dates why fault (Ok numbers) p is h = absurd p
leaves rows name dates why fault (Err e) p is h = h ∙ ap (λ f. just (told f)) (inv (p ∙ is))

-- ---- a field

module _ (f : List ℕ) (ks : List Known) where
  pub no_name : subfield code_a f ≡ none → first (name_rows f ks) ≡ just (refusal 21 0)
  unfolding name_rows
  no_name e = rw e

  module _ (name : List ℕ) (named : subfield code_a f ≡ just name) where
    pub name_unlisted : number_in ks name ≡ none → first (name_rows f ks) ≡ just (refusal 22 0)
    unfolding name_rows
    name_unlisted e = rw (named, e)

    module _ (n : ℕ) (listed : number_in ks name ≡ just n) where
      pub no_dates : (absent : ℕ) → subfield code_d f ≡ none → FieldLooks f ks absent (Ok (record { name = n; dates = absent }))
      unfolding name_rows
      no_dates absent e = (rw (named, e, listed), rw (named, listed), rw e)

      module _ (dates : List ℕ) (dated : subfield code_d f ≡ just dates) where
        pub dates_unlisted : number_in ks dates ≡ none → first (name_rows f ks) ≡ just (refusal 22 1)
        unfolding name_rows
        dates_unlisted e = rw (named, dated, listed, e)

        pub both_listed : (absent d : ℕ) → number_in ks dates ≡ just d → FieldLooks f ks absent (Ok (record { name = n; dates = d }))
        unfolding name_rows
        both_listed absent d e = (rw (named, dated, listed, e), rw (named, listed), rw (dated, e))

-- ---- a record

module _ (r : List ℕ) (ks : List Known) where
  pub no_frame : (place : ℕ) → first (frame_rows r) ≡ just (refusal 17 place) → first (record_rows r ks) ≡ just (refusal 17 place)
  unfolding record_rows
  no_frame place e = first_stays (frame_rows r) (row20 r ∷ row21 r ∷ row22 ks r ∷ []) 17 place e

  module _ (framed : first (frame_rows r) ≡ none) where
    pub no_field : field100 r ≡ none → first (record_rows r ks) ≡ just (refusal 20 0)
    unfolding record_rows row20
    no_field e = first-append (frame_rows r) (row20 r ∷ row21 r ∷ row22 ks r ∷ []) framed ∙ go
      where
        go : first (row20 r ∷ row21 r ∷ row22 ks r ∷ []) ≡ just (refusal 20 0)
        go = rw e

    module _ (f : List ℕ) (is : field100 r ≡ just f) where
      rows_are : first (record_rows r ks) ≡ first (name_rows f ks)
      unfolding record_rows row20 row21 row22 name_rows name_in dates_in
      rows_are = first-append (frame_rows r) (row20 r ∷ row21 r ∷ row22 ks r ∷ []) framed ∙ go
        where
          go : first (row20 r ∷ row21 r ∷ row22 ks r ∷ []) ≡ first (name_rows f ks)
          go = rw is

      name_is : name_in r ≡ subfield code_a f
      unfolding name_in
      name_is = rw is

      dates_are : dates_in r ≡ subfield code_d f
      unfolding dates_in
      dates_are = rw is

      -- LAW: what is found in the field is found in the record
      pub looks_in : (absent : ℕ) (l : Result Numbers Fault) → FieldLooks f ks absent l → RecordLooks r ks absent l
      looks_in absent (Ok found) h = (rows_are ∙ h.0, h.1 ∙ inv (ap (node_of ks absent) name_is), h.2 ∙ inv (ap (node_of ks absent) dates_are))
      looks_in absent (Err why) h = rows_are ∙ h
