-- What the outcome of a match says, and the match that it is the outcome of.
use Rattle.std.specs.Prelude.{List, ℕ, Result, Ok, Err}
use Rattle.meaning.specs.Calls.{Answer, gives, Degrees as Given, degrees, Matched}
use Rattle.refusal.specs.declared.Degrees.{Degrees}
use Rattle.refusal.specs.declared.Refusal.{Refusal}
use Rattle.refusal.specs.Told.{refused_by}

abbrev pub said_match : Result Degrees Refusal → Answer Given
said_match (Ok d) = gives (degrees d.lowest d.highest)
said_match (Err why) = refused_by why

-- The answer with what the buffers hold.
abbrev pub result_of : Result Degrees Refusal → List ℕ → List ℕ → Matched
result_of r spans sets = record { answer = said_match r; spans = spans; sets = sets }
