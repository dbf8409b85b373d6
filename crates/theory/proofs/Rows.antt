-- Rows of terms end to end: what a loop that goes along both lists keeps. What is left of the pattern's list is a row of patterns,
-- what is left of the heading's is a row of terms as long, and the faces are those passed with those of the two rows.
use mathlib.Core.Path.{◌≡◌, refl, sym as inv, ap, ◌∙◌}
use mathlib.Core.List.{List, [], ◌∷◌, ◌++◌, append_assoc, append-nil}
use Prim.Native.Nat.{ℕ, zero, suc, ◌+◌, ◌≤◌, ◌<◌}
use native.Mathlib.Omega.{arith}
use lib.ListN.{length, length-append}
use Rattle.theory.specs.Tree.{Term, node, Terms, ∅, ◌▹◌, Pattern, var, sym, Patterns, ∅ₚ, ◌▸◌, count, countₚ, enc, encs, encₚ, encsₚ}
use Rattle.theory.specs.Faces.{Face, meets, binds, faces, faces_of}

infixr 55 ◌⊕◌
infixr 55 ◌⊕ₚ◌
abbrev pub ◌⊕◌ : Terms → Terms → Terms
∅ ⊕ us = us
(t ▹ ts) ⊕ us = t ▹ (ts ⊕ us)

abbrev pub ◌⊕ₚ◌ : Patterns → Patterns → Patterns
∅ₚ ⊕ₚ qs = qs
(p ▸ ps) ⊕ₚ qs = p ▸ (ps ⊕ₚ qs)

pub count_join : (ts us : Terms) → count (ts ⊕ us) ≡ count ts + count us
count_join ∅ us = omega arith
count_join (t ▹ ts) us = omega (arith, count_join ts us)

pub countₚ_join : (ps qs : Patterns) → countₚ (ps ⊕ₚ qs) ≡ countₚ ps + countₚ qs
countₚ_join ∅ₚ qs = omega arith
countₚ_join (p ▸ ps) qs = omega (arith, countₚ_join ps qs)

pub encs_join : (ts us : Terms) → encs (ts ⊕ us) ≡ encs ts ++ encs us
encs_join ∅ us = refl
encs_join (t ▹ ts) us = ap (λ l. enc t ++ l) (encs_join ts us) ∙ inv (append_assoc (enc t) (encs ts) (encs us))

pub encsₚ_join : (ps qs : Patterns) → encsₚ (ps ⊕ₚ qs) ≡ encsₚ ps ++ encsₚ qs
encsₚ_join ∅ₚ qs = refl
encsₚ_join (p ▸ ps) qs = ap (λ l. encₚ p ++ l) (encsₚ_join ps qs) ∙ inv (append_assoc (encₚ p) (encsₚ ps) (encsₚ qs))

pub faces_join : (ps qs : Patterns) (ts us : Terms) → countₚ ps ≡ count ts → faces_of (ps ⊕ₚ qs) (ts ⊕ us) ≡ faces_of ps ts ++ faces_of qs us
faces_join ∅ₚ qs ∅ us e = refl
faces_join ∅ₚ qs (t ▹ ts) us e = absurd (omega arith)
faces_join (p ▸ ps) qs ∅ us e = absurd (omega arith)
faces_join (p ▸ ps) qs (t ▹ ts) us e =
    ap (λ l. faces p t ++ l) (faces_join ps qs ts us (omega arith)) ∙ inv (append_assoc (faces p t) (faces_of ps ts) (faces_of qs us))

-- a symbol is passed: its arguments come before what was left
pub pass_symbol : (f g : ℕ) (ps qs : Patterns) (ts us : Terms) → countₚ ps ≡ count ts
    → faces_of (sym f ps ▸ qs) (node g ts ▹ us) ≡ meets f g ∷ faces_of (ps ⊕ₚ qs) (ts ⊕ us)
pass_symbol f g ps qs ts us e = ap (λ l. meets f g ∷ l) (inv (faces_join ps qs ts us e))

-- a variable is passed with the whole term that faces it
pub pass_variable : (v : ℕ) (qs : Patterns) (t : Term) (us : Terms) → faces_of (var v ▸ qs) (t ▹ us) ≡ binds v t ∷ faces_of qs us
pass_variable v qs t us = refl

-- a pattern and a heading are rows of one
pub one_row : (p : Pattern) (h : Term) → faces_of (p ▸ ∅ₚ) (h ▹ ∅) ≡ faces p h
one_row p h = append-nil (faces p h)
