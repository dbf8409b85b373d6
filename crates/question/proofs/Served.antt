-- The text that is put is the question's, since the answer promises that its outcome and buffers have it.
use mathlib.Core.Path.{subst}
use mathlib.Core.List.{List}
use Prim.Native.Nat.{ℕ, ◌≤◌}
use lib.ListN.{length}
use Rattle.std.specs.Prelude.{Result}
use Rattle.refusal.specs.declared.Degrees.{Degrees}
use Rattle.refusal.specs.declared.Refusal.{Refusal}
use Rattle.refusal.specs.Outcomes.{result_of}
use Rattle.lines.specs.Lines.{text_in}
use Rattle.lines.specs.Lengths.{most_sets, most_text}
use Rattle.lines.proofs.Lengths.{text_short}
use Rattle.output.specs.declared.pending.Pending.{Pending}
use Rattle.output.specs.declared.pending.Failed.{Failed}
use Rattle.output.specs.Pendings.{Said}
use Rattle.question.specs.Answers.{AnsweredBy, ServedBy}

-- LAW: the answer's text is the question's
pub served : (input : List ℕ) (outcome : Result Degrees Refusal) (spans sets before : List ℕ) (used : ℕ) (r : Result Pending Failed) (after : List ℕ) → AnsweredBy input outcome spans sets
    → length sets ≤ most_sets → Said before used (text_in (result_of outcome spans sets)) r after → ServedBy input before used r after
served input outcome spans sets before used r after answered few said =
    record {
      said = subst (λ text. Said before used text r after) answered.text_is said;
      short = subst (λ text. length text ≤ most_text) answered.text_is (text_short outcome spans sets answered.spanned few);
    }
