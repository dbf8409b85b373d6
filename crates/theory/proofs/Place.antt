-- A clash's place among the faces is its index in the pattern's list.
use mathlib.Core.Path.{◌≡◌, refl, sym as inv, ap, ◌∙◌, subst}
use mathlib.Core.List.{List, [], ◌∷◌, ◌++◌, append_assoc, append-nil}
use mathlib.Core.Bool.{Bool, true, false, cond}
use mathlib.Core.Option.{Option, none, some as just, some-ne-none, some-injective}
use Prim.Native.Nat.{ℕ, zero, suc, ◌+◌, ◌≤◌, ◌<◌}
use native.Mathlib.Omega.{arith}
use lib.Dec.{ltb}
use lib.ListN.{length, get_or}
use borrow.Author.Tests.{ltb-false}
use Rattle.theory.specs.Tree.{Term, node, Terms, ∅, ◌▹◌, Pattern, var, sym, Patterns, ∅ₚ, ◌▸◌, count, countₚ, encₚ, encsₚ}
use Rattle.theory.specs.Table.{Table, Lawful, Over, Overs, Overₚ, Oversₚ}
use Rattle.theory.specs.Faces.{Face, meets, binds, faces, faces_of}
use Rattle.theory.specs.Match.{clash, one_on}
use Rattle.theory.proofs.More.{on_just}
use Rattle.theory.specs.Faces.{node_of}

module _ (T : Table) (L : Lawful T) (c : ℕ) (pos : 0 < c) where
  -- a clash at i among the faces is at node i of the list
  abbrev Placed : List Face → List ℕ → Type 0
  Placed fs xs = (i : ℕ) → clash T c fs ≡ just i → (i < length xs) × (node_of (get_or fs i (meets 0 0)) ≡ get_or xs i 0)

  -- one node more in front, that does not clash
  placed_on : (x : Face) (y : ℕ) (fs : List Face) (xs : List ℕ) → Placed fs xs → (i : ℕ) → one_on (clash T c fs) ≡ just i
      → (i < length (y ∷ xs)) × (node_of (get_or (x ∷ fs) i (meets 0 0)) ≡ get_or (y ∷ xs) i 0)
  placed_on x y fs xs q i e =
      let r = on_just T c (clash T c fs) i e in
      let s = q r.0 r.1.1 in
      rw r.1.0 (omega (arith, s.0), s.1)

  placed_symbol : (f g : ℕ) (fs : List Face) (xs : List ℕ) → (0 < T.deg f g → Placed fs xs) → Placed (meets f g ∷ fs) (f ∷ xs)
  placed_symbol f g fs xs q i e = go (ltb (T.deg f g) c) refl e
    where
      go : (b : Bool) → ltb (T.deg f g) c ≡ b → cond b (just 0) (one_on (clash T c fs)) ≡ just i
          → (i < length (f ∷ xs)) × (node_of (get_or (meets f g ∷ fs) i (meets 0 0)) ≡ get_or (f ∷ xs) i 0)
      go true l e =
          subst (λ i. (i < length (f ∷ xs)) × (node_of (get_or (meets f g ∷ fs) i (meets 0 0)) ≡ get_or (f ∷ xs) i 0)) (some-injective 0 i e)
          (omega arith, refl)
      go false l e = placed_on (meets f g) f fs xs (q (omega (arith, ltb-false (T.deg f g) c l))) i e

  mutual
    placed : (p : Pattern) (h : Term) → Overₚ T p → Over T h → (fs : List Face) (xs : List ℕ) → Placed fs xs → Placed (faces p h ++ fs) (encₚ p ++ xs)
    placed (var v) h op oh fs xs q = placed_on (binds v h) (32768 + v) fs xs q
    placed (sym f ps) (node g ts) op oh fs xs q =
        placed_symbol f g (faces_of ps ts ++ fs) (encsₚ ps ++ xs)
        (λ d. placed_row ps ts (op.1 ∙ L.alike f g d ∙ inv oh.1) op.2 oh.2 fs xs q)

    placed_row : (ps : Patterns) (ts : Terms) → countₚ ps ≡ count ts → Oversₚ T ps → Overs T ts
        → (fs : List Face) (xs : List ℕ) → Placed fs xs → Placed (faces_of ps ts ++ fs) (encsₚ ps ++ xs)
    placed_row ∅ₚ ∅ n op oh fs xs q = q
    placed_row ∅ₚ (t ▹ ts) n op oh fs xs q = absurd (omega arith)
    placed_row (p ▸ ps) ∅ n op oh fs xs q = absurd (omega arith)
    placed_row (p ▸ ps) (t ▹ ts) n op oh fs xs q =
        rw (append_assoc (faces p t) (faces_of ps ts) fs, append_assoc (encₚ p) (encsₚ ps) xs)
        (placed p t op.0 oh.0 (faces_of ps ts ++ fs) (encsₚ ps ++ xs) (placed_row ps ts (omega arith) op.1 oh.1 fs xs q))

  -- LAW: the place of a clash is an index of the pattern's list, and the node there is the clash's
  pub clash_place : (p : Pattern) (h : Term) → Overₚ T p → Over T h → (i : ℕ) → clash T c (faces p h) ≡ just i
      → (i < length (encₚ p)) × (node_of (get_or (faces p h) i (meets 0 0)) ≡ get_or (encₚ p) i 0)
  clash_place p h op oh =
      let r : Placed (faces p h ++ []) (encₚ p ++ []) = placed p h op oh [] [] (λ i e. absurd (some-ne-none i (inv e))) in
      rw (append-nil (faces p h), append-nil (encₚ p)) at r
