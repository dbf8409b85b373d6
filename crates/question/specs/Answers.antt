-- What answering a question comes to, and what saying its answer does.
use Rattle.std.specs.Prelude.{◌≡◌, List, Result, ℕ, ◌≤◌, length}
use Rattle.meaning.specs.Program.{output}
use Rattle.refusal.specs.declared.Degrees.{Degrees}
use Rattle.refusal.specs.declared.Refusal.{Refusal}
use Rattle.refusal.specs.Outcomes.{result_of}
use Rattle.lines.specs.Lines.{text_in}
use Rattle.lines.specs.Spans.{Spanned}
use Rattle.lines.specs.Lengths.{most_text}
use Rattle.output.specs.declared.pending.Pending.{Pending}
use Rattle.output.specs.declared.pending.Failed.{Failed}
use Rattle.output.specs.Pendings.{Said}

-- The outcome and the two buffers have the text that is written for the question.
pub record AnsweredBy (input : List ℕ) (outcome : Result Degrees Refusal) (spans sets : List ℕ) : Type 0 where
  pub text_is : text_in (result_of outcome spans sets) ≡ output input
  pub spanned : Spanned spans sets

-- That text is said behind what stood in the buffer, and is not too long to be counted.
pub record ServedBy (input before : List ℕ) (used : ℕ) (r : Result Pending Failed) (after : List ℕ) : Type 0 where
  pub said : Said before used (output input) r after
  pub short : length (output input) ≤ most_text
