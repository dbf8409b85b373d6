-- The converter's promise allows one answer and one later output: it is an equation with the meaning.
use mathlib.Core.Path.{◌≡◌, sym, ◌∙◌}
use mathlib.Core.List.{List}
use Prim.Native.Nat.{ℕ}
use Rattle.std.specs.Prelude.{Result}
use Rattle.refusal.specs.declared.Refusal.{Refusal}
use Rattle.writer.proofs.Answers.{one_said}
use Rattle.saved.specs.Widening.{Widen}

-- THEOREM
pub one_widening : (words output : List ℕ) (r s : Result ℕ Refusal) (later after : List ℕ) → Widen words output r later → Widen words output s after → (r ≡ s) × (later ≡ after)
one_widening words output r s later after p q = (one_said r s (p.answers ∙ sym q.answers), p.leaves ∙ sym q.leaves)
