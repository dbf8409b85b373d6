-- Where a list begins with elements of one kind, and the next one is of another kind, only the list itself tells where they part.
use mathlib.Core.Path.{◌≡◌, refl, sym, ap₂, subst}
use mathlib.Core.List.{List, [], ◌∷◌, ◌++◌, head-eq_of_cons-eq, tail-eq_of_cons-eq}
use Prim.Native.Nat.{ℕ}
use Rattle.theory.specs.Least.{All}

-- a list goes on behind a part, and `c` stands where it ends
pub record GoesOn (part whole rest : List ℕ) (c : ℕ) (left : List ℕ) : Type 0 where
  pub more : List ℕ
  pub is : whole ≡ part ++ more
  pub behind : rest ≡ more ++ (c ∷ left)

module _ (P : ℕ → Type 0) where
  -- LAW: before an element of another kind the part has ended
  pub goes_on : (part whole rest : List ℕ) (c : ℕ) (left : List ℕ) → All P part → (P c → ⊥) → part ++ rest ≡ whole ++ (c ∷ left) → GoesOn part whole rest c left
  goes_on [] whole rest c left all other e = record { more = whole; is = refl; behind = e }
  goes_on (x ∷ part) [] rest c left all other e = absurd (other (subst P (head-eq_of_cons-eq e) all.0))
  goes_on (x ∷ part) (y ∷ whole) rest c left all other e =
      let on = goes_on part whole rest c left all.1 other (tail-eq_of_cons-eq e) in
      record { more = on.more; is = ap₂ ◌∷◌ (sym (head-eq_of_cons-eq e)) on.is; behind = on.behind }

  -- LAW: they part in one way
  pub parts_once : (xs ys : List ℕ) (c d : ℕ) (r s : List ℕ) → All P xs → All P ys → (P c → ⊥) → (P d → ⊥) → xs ++ (c ∷ r) ≡ ys ++ (d ∷ s) → (xs ≡ ys) × (c ≡ d) × (r ≡ s)
  parts_once [] [] c d r s p q m n e = (refl, head-eq_of_cons-eq e, tail-eq_of_cons-eq e)
  parts_once [] (y ∷ ys) c d r s p q m n e = absurd (m (subst P (sym (head-eq_of_cons-eq e)) q.0))
  parts_once (x ∷ xs) [] c d r s p q m n e = absurd (n (subst P (head-eq_of_cons-eq e) p.0))
  parts_once (x ∷ xs) (y ∷ ys) c d r s p q m n e =
      let on = parts_once xs ys c d r s p.1 q.1 m n (tail-eq_of_cons-eq e) in
      (ap₂ ◌∷◌ (head-eq_of_cons-eq e) on.0, on.1, on.2)
