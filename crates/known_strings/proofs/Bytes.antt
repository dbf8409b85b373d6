-- Two strings held against each other: the library's tests say what the meaning says of them, and where both have the same byte what is left decides.
use mathlib.Core.Path.{◌≡◌, refl, sym as inv, ap, ap₂, subst, ◌∙◌}
use mathlib.Core.List.{List, [], ◌∷◌}
use mathlib.Core.Bool.{Bool, true, false, ◌&&◌}
use Prim.Native.Nat.{ℕ, suc, ◌+◌, ◌≤◌, ◌<◌}
use native.Mathlib.Omega.{arith}
use borrow.Author.Tests.{lt-ltb, le-ltb, eq-eqb}
use lib.Dec.{eqb}
use lib.ListN.{length, get_or, drop, drop_of_length-le}
use Rattle.std.proofs.Common.{Ordering, Less, Equal, Greater}
use Rattle.std.specs.Cmp.Lexicographic.{pointwise}
use Rattle.std.specs.Prelude.{nat_eq}
use Rattle.marc.specs.Known.{same}
use Rattle.marc.specs.Order.{before}
use Rattle.marc.proofs.Strings.{left_is}
use Rattle.known_strings.specs.Compared.{ComparedAs}

-- LAW: strings of unlike lengths are not the same
pub unlike : (xs ys : List ℕ) → (length xs ≡ length ys → ⊥) → false ≡ same xs ys
unlike [] [] n = absurd (n refl)
unlike [] (y ∷ ys) n = refl
unlike (x ∷ xs) [] n = refl
unlike (x ∷ xs) (y ∷ ys) n = go (eqb x y) (unlike xs ys (λ e. n (ap suc e)))
  where
    go : (b : Bool) → false ≡ same xs ys → false ≡ (b && same xs ys)
    go true e = e
    go false e = refl

-- LAW: equal slices are the same strings
pub same_is : (xs ys : List ℕ) → pointwise nat_eq xs ys ≡ same xs ys
same_is [] [] = refl
same_is [] (y ∷ ys) = refl
same_is (x ∷ xs) [] = refl
same_is (x ∷ xs) (y ∷ ys) = ap (λ b. eqb x y && b) (same_is xs ys)

-- LAW: .. and so is what a test of two slices says of the strings that they hold
pub same_told : (xs ys zs : List ℕ) (r b : Bool) → xs ≡ zs → r ≡ pointwise nat_eq xs ys → r ≡ b → same zs ys ≡ b
same_told xs ys zs r b e f g = ap (λ x. same x ys) (inv e) ∙ inv (same_is xs ys) ∙ inv f ∙ g

-- ---- what is left of both from byte k on

module _ (xs ys : List ℕ) (k : ℕ) (l : k < length xs) (m : k < length ys) where
  both_left : {A : Type 0} (f : List ℕ → List ℕ → A) → f (drop k xs) (drop k ys) ≡ f (get_or xs k 0 ∷ drop (k + 1) xs) (get_or ys k 0 ∷ drop (k + 1) ys)
  both_left f = ap₂ f (left_is xs k l) (left_is ys k m)

  pub before_lower : get_or xs k 0 < get_or ys k 0 → before (drop k xs) (drop k ys) ≡ true
  before_lower e = both_left before ∙ go
    where
      go : before (get_or xs k 0 ∷ drop (k + 1) xs) (get_or ys k 0 ∷ drop (k + 1) ys) ≡ true
      go = rw (lt-ltb (get_or xs k 0) (get_or ys k 0) e)

  before_goes : get_or xs k 0 ≡ get_or ys k 0 → before (drop k xs) (drop k ys) ≡ before (drop (k + 1) xs) (drop (k + 1) ys)
  before_goes e = both_left before ∙ go
    where
      go : before (get_or xs k 0 ∷ drop (k + 1) xs) (get_or ys k 0 ∷ drop (k + 1) ys) ≡ before (drop (k + 1) xs) (drop (k + 1) ys)
      go = rw (le-ltb (get_or xs k 0) (get_or ys k 0) (omega arith), eq-eqb (get_or xs k 0) (get_or ys k 0) e)

-- LAW: where both have the same byte, what is left decides
pub goes_on : (xs ys : List ℕ) (k : ℕ) → k < length xs → k < length ys → get_or xs k 0 ≡ get_or ys k 0 → (r : Ordering) → ComparedAs (drop (k + 1) xs) (drop (k + 1) ys) r
    → ComparedAs (drop k xs) (drop k ys) r
goes_on xs ys k l m e Less p = before_goes xs ys k l m e ∙ p
goes_on xs ys k l m e Equal p = left_is xs k l ∙ ap₂ ◌∷◌ e p ∙ inv (left_is ys k m)
goes_on xs ys k l m e Greater p = before_goes ys xs k m l (inv e) ∙ p

-- LAW: a string that ends where another goes on stands before it, and two that end there are the same
pub ends_first : (xs ys : List ℕ) (k : ℕ) → length xs ≤ k → k < length ys → before (drop k xs) (drop k ys) ≡ true
ends_first xs ys k l m = ap₂ before (drop_of_length-le xs l) (left_is ys k m)

pub both_end : (xs ys : List ℕ) (k : ℕ) → length xs ≤ k → length ys ≤ k → drop k xs ≡ drop k ys
both_end xs ys k l m = drop_of_length-le xs l ∙ inv (drop_of_length-le ys m)

-- LAW: what a comparison says of the strings that two slices hold
pub compared_told : (xs ys zs : List ℕ) (r o : Ordering) → xs ≡ zs → ComparedAs xs ys r → r ≡ o → ComparedAs zs ys o
compared_told xs ys zs r o e f g = subst (λ o. ComparedAs zs ys o) g (subst (λ x. ComparedAs x ys r) e f)
