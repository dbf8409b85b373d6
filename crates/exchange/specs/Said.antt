-- What each case of an answer says: a refusal's number and place, or that the heading is written.
use Rattle.std.specs.Prelude.{Result, Ok, Err}
use Rattle.meaning.specs.Refusals.{Refusal, refusal}
use Rattle.meaning.specs.Calls.{Answer, gives, refused_as, Yes, aye}
use Rattle.exchange.specs.declared.Fault.{Fault}
use Rattle.exchange.specs.declared.Fault.TheVariants.{List, Room, Frame, NoField, NoName, UnlistedName, UnlistedDates}

abbrev pub told : Fault → Refusal
told (List entry) = refusal 19 entry
told Room = refusal 8 0
told (Frame byte) = refusal 17 byte
told NoField = refusal 20 0
told NoName = refusal 21 0
told UnlistedName = refusal 22 0
told UnlistedDates = refusal 22 1

abbrev pub said : Result (Unit {0}) Fault → Answer Yes
said (Ok done) = gives aye
said (Err why) = refused_as (told why)
