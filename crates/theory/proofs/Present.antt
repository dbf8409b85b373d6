-- Where nothing clashes, every variable that stands in the pattern faces a subterm.
use mathlib.Core.Path.{◌≡◌, sym as inv, ◌∙◌}
use mathlib.Core.Logic.{◌⊎◌, inl, inr}
use mathlib.Core.List.{List, ◌++◌}
use mathlib.Core.Bool.{true, false, false≢true}
use Prim.Native.Nat.{ℕ, ◌+◌, ◌<◌}
use native.Mathlib.Omega.{arith}
use lib.ListN.{length, length-append}
use Rattle.theory.specs.Tree.{Term, node, Terms, ∅, ◌▹◌, Pattern, var, sym, Patterns, ∅ₚ, ◌▸◌, count, countₚ, stands, stands_in}
use Rattle.theory.specs.Table.{Table, Lawful, Over, Overs, Overₚ, Oversₚ}
use Rattle.theory.specs.Least.{All}
use Rattle.theory.specs.Faces.{Face, faces, faces_of, facing}
use Rattle.theory.proofs.Matchers.{Clear}
use Rattle.theory.proofs.Lemmas.{all_left, all_right}
use Rattle.theory.proofs.Growing.{facing-append}
use Rattle.theory.proofs.Verdict.{or_cases}

either : {A B C D : Type 0} → A ⊎ B → (A → C) → (B → D) → C ⊎ D
either (inl a) f g = inl (f a)
either (inr b) f g = inr (g b)

module _ (T : Table) (L : Lawful T) (c : ℕ) (pos : 0 < c) (v : ℕ) where
  -- one of two rows of faces has a subterm for v
  joined-facing : (xs ys : List Face) → (0 < length (facing v xs)) ⊎ (0 < length (facing v ys)) → 0 < length (facing v (xs ++ ys))
  joined-facing xs ys (inl l) = rw (facing-append v xs ys) (omega (arith, length-append (facing v xs) (facing v ys)))
  joined-facing xs ys (inr l) = rw (facing-append v xs ys) (omega (arith, length-append (facing v xs) (facing v ys)))

  mutual
    -- LAW: a variable that stands in the pattern faces something
    pub present : (p : Pattern) (h : Term) → Overₚ T p → Over T h → All (Clear T c) (faces p h) → stands v p ≡ true → 0 < length (facing v (faces p h))
    present (var w) h op oh a s = rw s (omega arith)
    present (sym f ps) (node g ts) op oh a s =
        present_row ps ts (op.1 ∙ L.alike f g (omega (arith, a.0)) ∙ inv oh.1) op.2 oh.2 a.1 s

    present_row : (ps : Patterns) (ts : Terms) → countₚ ps ≡ count ts → Oversₚ T ps → Overs T ts → All (Clear T c) (faces_of ps ts)
        → stands_in v ps ≡ true → 0 < length (facing v (faces_of ps ts))
    present_row ∅ₚ ts n op oh a s = absurd (false≢true s)
    present_row (p ▸ ps) ∅ n op oh a s = absurd (omega arith)
    present_row (p ▸ ps) (t ▹ ts) n op oh a s =
        joined-facing (faces p t) (faces_of ps ts)
        (either (or_cases (stands v p) (stands_in v ps) s)
        (λ e. present p t op.0 oh.0 (all_left (Clear T c) (faces p t) (faces_of ps ts) a) e)
        (λ e. present_row ps ts (omega arith) op.1 oh.1 (all_right (Clear T c) (faces p t) (faces_of ps ts) a) e))
