-- What each case of a refusal says: its number and its place.
use Rattle.meaning.specs.Refusals.{Refusal as Given, refusal}
use Rattle.meaning.specs.Calls.{Answer, refused_as}
use Rattle.refusal.specs.declared.Refusal.{Refusal}
use Rattle.refusal.specs.declared.Refusal.TheVariants.{Layout, Counts, Arity, Pair, Cut, Pattern, Heading, Room, Clash, NoForm, Misshapen, NoSymbol, Absent}

abbrev pub told : Refusal → Given
told Layout = refusal 1 0
told Counts = refusal 2 0
told (Arity symbol) = refusal 3 symbol
told (Pair index) = refusal 4 index
told Cut = refusal 5 0
told (Pattern node) = refusal 6 node
told (Heading node) = refusal 7 node
told Room = refusal 8 0
told (Clash node) = refusal 9 node
told (NoForm variable) = refusal 10 variable
told Misshapen = refusal 12 0
told (NoSymbol place) = refusal 13 place
told Absent = refusal 14 0

-- The answer of a call that is refused so.
abbrev pub refused_by : {A : Type 0} → Refusal → Answer A
refused_by f = refused_as (told f)
