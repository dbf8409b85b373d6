-- What is asked of a heading read from a record can be said: each row of the call has a case of the call's own refusals.
use mathlib.Core.Path.{◌≡◌, refl, ap}
use mathlib.Core.List.{List}
use mathlib.Core.Bool.{Bool, true, false}
use mathlib.Core.Option.{Option, none-ne-some}
use Prim.Native.Nat.{ℕ}
use lib.Dec.{ltb}
use lib.ListN.{length}
use Rattle.theory.specs.Least.{All, or_else}
use Rattle.theory.proofs.Lemmas.{all_append}
use Rattle.meaning.specs.Refusals.{refusal, row, row8-output}
use Rattle.meaning.specs.Calls.{gives, Yes, aye}
use Rattle.marc.specs.Frame.{frame_rows, at_if}
use Rattle.marc.specs.Known.{Known, row19}
use Rattle.marc.specs.Heading.{missing, field100, name_in, dates_in, row20, row21, row22, unlisted, heading_rows, headed}
use Rattle.exchange.specs.Said.{told, said}
use Rattle.std.specs.Prelude.{Result, Ok}
use Rattle.exchange.specs.declared.Fault.{Fault}
use Rattle.exchange.specs.declared.Fault.TheVariants.{List as ListFault, Room, Frame, NoField, NoName, UnlistedName, UnlistedDates}
use Rattle.demands.proofs.Sayable.{Sayable, zero-said, placed_said, sayable}

frame_said : (r : List ℕ) → All (Sayable told) (frame_rows r)
unfolding frame_rows
frame_said r = (seventeen _, (seventeen _, (seventeen _, (seventeen _, (seventeen _, (seventeen _, (seventeen _, tt)))))))
  where
    seventeen : (o : Option ℕ) → Sayable told (row 17 o)
    seventeen o = placed_said told 17 o Frame (λ i. refl)

-- the name is told at 0, the dates at 1
strings_said : (a b : Bool) → Sayable told (row 22 (or_else (at_if 0 a) (at_if 1 b)))
strings_said true b place q = let e : 0 ≡ place = cc in (UnlistedName, ap (refusal 22) e)
strings_said false true place q = let e : 1 ≡ place = cc in (UnlistedDates, ap (refusal 22) e)
strings_said false false place q = absurd (none-ne-some place q)

rows_said : (r : List ℕ) (ks : List Known) (heading absent : ℕ) (output : List ℕ) → All (Sayable told) (heading_rows r ks heading absent output)
unfolding heading_rows row19 row8-output row20 row21 row22
rows_said r ks heading absent output = (
  placed_said told 19 _ ListFault (λ i. refl),
  (
    zero-said told 8 (ltb (length output) 3) Room refl,
    all_append (Sayable told) (frame_rows r) _ (frame_said r)
        (zero-said told 20 (missing (field100 r)) NoField refl, (zero-said told 21 (missing (name_in r)) NoName refl, (strings_said (unlisted ks (name_in r)) (unlisted ks (dates_in r)), tt))),
  ),
)

-- LAW
pub record_met : (r : List ℕ) (ks : List Known) (heading absent : ℕ) (output : List ℕ) → (h : Result (Unit {0}) Fault) × (said h ≡ headed r ks heading absent output)
unfolding headed
record_met r ks heading absent output = sayable told said (λ a. tt) yes_said (λ why. refl) (heading_rows r ks heading absent output) (rows_said r ks heading absent output) aye
  where
    yes_said : (a : Yes) → said (Ok tt) ≡ gives a
    yes_said aye = refl
