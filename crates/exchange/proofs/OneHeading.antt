-- The promise allows one answer and one later output, and it is the meaning's: refused exactly by the rows, and otherwise three nodes.
use mathlib.Core.Path.{◌≡◌, refl, sym, ap, ◌∙◌}
use mathlib.Core.List.{List as Seq}
use mathlib.Core.Bool.{cond}
use Prim.Native.Nat.{ℕ}
use lib.Dec.{eqb}
use Rattle.std.specs.Prelude.{Result, Ok, Err}
use Rattle.meaning.specs.Calls.{Answer, refused, gives, Yes}
use Rattle.marc.specs.Known.{known_in}
use Rattle.marc.specs.Reading.{HeadsCall}
use Rattle.marc.proofs.Headings.{heads_call}
use Rattle.exchange.specs.Said.{said}
use Rattle.exchange.specs.Heading.{ReadHeading}
use Rattle.exchange.specs.declared.Fault.{Fault}
use Rattle.exchange.specs.declared.Fault.TheVariants.{List, Room, Frame, NoField, NoName, UnlistedName, UnlistedDates}

-- the case that a number and a place tell of
abbrev named : ℕ → ℕ → Fault
named n place =
    cond (eqb n 19) (List place)
    (cond (eqb n 8) Room
    (cond (eqb n 17) (Frame place)
    (cond (eqb n 20) NoField
    (cond (eqb n 21) NoName
    (cond (eqb place 0) UnlistedName UnlistedDates)))))

abbrev headed_as : Answer Yes → Result (Unit {0}) Fault
headed_as (refused n place) = Err (named n place)
headed_as (gives a) = Ok tt

headed-said : (r : Result (Unit {0}) Fault) → headed_as (said r) ≡ r
headed-said (Ok done) = refl
headed-said (Err (List entry)) = refl
headed-said (Err Room) = refl
headed-said (Err (Frame byte)) = refl
headed-said (Err NoField) = refl
headed-said (Err NoName) = refl
headed-said (Err UnlistedName) = refl
headed-said (Err UnlistedDates) = refl

-- LAW: two answers that say the same are the same
pub one_said : (r s : Result (Unit {0}) Fault) → said r ≡ said s → r ≡ s
one_said r s e = sym (headed-said r) ∙ ap headed_as e ∙ headed-said s

module _ (bytes text ends numbers : Seq ℕ) (heading absent : ℕ) (nodes : Seq ℕ) where
  -- THEOREM: any two results that the promise allows are equal, and so are the later outputs
  pub one_heading : (r s : Result (Unit {0}) Fault) (later after : Seq ℕ) → ReadHeading bytes text ends numbers heading absent nodes r later → ReadHeading bytes text ends numbers heading absent nodes s after
      → (r ≡ s) × (later ≡ after)
  one_heading r s later after p q = (one_said r s (p.answers ∙ sym q.answers), p.leaves ∙ sym q.leaves)

  -- THEOREM: it refuses exactly by the rows and then leaves the output; else the output begins with the heading's three nodes
  pub reads_heading : (r : Result (Unit {0}) Fault) (later : Seq ℕ) → ReadHeading bytes text ends numbers heading absent nodes r later
      → HeadsCall bytes (known_in text ends numbers) heading absent nodes (record { answer = said r; output = later })
  reads_heading r later p =
      let ks = known_in text ends numbers in
      let whole = heads_call bytes ks heading absent nodes in
      rw (p.answers, p.leaves) whole
