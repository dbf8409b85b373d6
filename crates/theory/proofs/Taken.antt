-- Where nothing clashes the faces take up the heading, each node once: subterms that face different nodes never overlap.
use mathlib.Core.Path.{◌≡◌, refl, sym as inv, ap, ap₂, ◌∙◌}
use mathlib.Core.List.{List, [], ◌∷◌, ◌++◌, append_assoc, append-nil}
use Prim.Native.Nat.{ℕ, ◌<◌}
use native.Mathlib.Omega.{arith}
use Rattle.theory.specs.Tree.{Term, node, Terms, ∅, ◌▹◌, Pattern, var, sym, Patterns, ∅ₚ, ◌▸◌, count, countₚ, enc, encs}
use Rattle.theory.specs.Table.{Table, Lawful, Over, Overs, Overₚ, Oversₚ}
use Rattle.theory.specs.Least.{All}
use Rattle.theory.specs.Faces.{Face, meets, binds, faces, faces_of, taken}
use Rattle.theory.proofs.Lemmas.{all_left, all_right}
use Rattle.theory.proofs.Matchers.{Clear}

taken-append : (xs ys : List Face) → taken (xs ++ ys) ≡ taken xs ++ taken ys
taken-append [] ys = refl
taken-append (meets f g ∷ xs) ys = ap (λ l. g ∷ l) (taken-append xs ys)
taken-append (binds v t ∷ xs) ys = ap (λ l. enc t ++ l) (taken-append xs ys) ∙ inv (append_assoc (enc t) (taken xs) (taken ys))

module _ (T : Table) (L : Lawful T) (c : ℕ) (pos : 0 < c) where
  mutual
    -- LAW: where nothing clashes the faces take up the heading
    pub taken_all : (p : Pattern) (h : Term) → Overₚ T p → Over T h → All (Clear T c) (faces p h) → taken (faces p h) ≡ enc h
    taken_all (var v) h op oh a = append-nil (enc h)
    taken_all (sym f ps) (node g ts) op oh a =
        ap (λ l. g ∷ l) (taken_row ps ts (op.1 ∙ L.alike f g (omega (arith, a.0)) ∙ inv oh.1) op.2 oh.2 a.1)

    taken_row : (ps : Patterns) (ts : Terms) → countₚ ps ≡ count ts → Oversₚ T ps → Overs T ts → All (Clear T c) (faces_of ps ts)
        → taken (faces_of ps ts) ≡ encs ts
    taken_row ∅ₚ ∅ e op oh a = refl
    taken_row ∅ₚ (t ▹ ts) e op oh a = absurd (omega arith)
    taken_row (p ▸ ps) ∅ e op oh a = absurd (omega arith)
    taken_row (p ▸ ps) (t ▹ ts) e op oh a =
        taken-append (faces p t) (faces_of ps ts)
        ∙ ap₂ (λ l m. l ++ m) (taken_all p t op.0 oh.0 (all_left (Clear T c) (faces p t) (faces_of ps ts) a))
        (taken_row ps ts (omega arith) op.1 oh.1 (all_right (Clear T c) (faces p t) (faces_of ps ts) a))
