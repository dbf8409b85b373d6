-- What a writing says, in the meaning's words: how much was written, or why nothing was.
use Rattle.std.specs.Prelude.{ℕ, Result, Ok, Err}
use Rattle.meaning.specs.Calls.{Answer, gives}
use Rattle.refusal.specs.declared.Refusal.{Refusal}
use Rattle.refusal.specs.Told.{refused_by}

abbrev pub said : Result ℕ Refusal → Answer ℕ
said (Ok n) = gives n
said (Err why) = refused_by why
