-- The degree of two terms, read off their lists: the least over the positions, 0 if one list is longer.
use mathlib.Core.Path.{◌≡◌, refl, sym as inv, ap, ◌∙◌}
use mathlib.Core.List.{List, [], ◌∷◌, ◌++◌, append_assoc, append-nil}
use mathlib.Core.Bool.{Bool, true, false}
use Prim.Native.Nat.{ℕ, zero, suc, ◌+◌, ◌≤◌, ◌<◌, min}
use native.Mathlib.Omega.{arith}
use native.Mathlib.Nat.{not-suc-le-zero}
use lib.Dec.{eqb}
use lib.ListN.{length, get_or}
use borrow.Author.Tests.{eqb-false}
use Rattle.theory.specs.Tree.{Term, node, Terms, ∅, ◌▹◌, count, enc, encs}
use Rattle.theory.specs.Table.{Table, Lawful, joined, Over, Overs, degree, degrees}
use Rattle.theory.specs.Match.{at, size}

-- the least degree over the positions of two lists
abbrev pub flat : (ℕ → ℕ → ℕ) → List ℕ → List ℕ → ℕ
flat d [] [] = 1000
flat d [] (y ∷ ys) = 0
flat d (x ∷ xs) [] = 0
flat d (x ∷ xs) (y ∷ ys) = min (d x y) (flat d xs ys)

pub flat_top : (d : ℕ → ℕ → ℕ) (xs ys : List ℕ) → flat d xs ys ≤ 1000
flat_top d [] [] = omega arith
flat_top d [] (y ∷ ys) = omega arith
flat_top d (x ∷ xs) [] = omega arith
flat_top d (x ∷ xs) (y ∷ ys) = omega (arith, flat_top d xs ys)

module _ (T : Table) (L : Lawful T) where
  -- symbols of different arity have degree 0
  pub deg_unlike : (f g : ℕ) → (T.arity f ≡ T.arity g → ⊥) → T.deg f g ≡ 0
  deg_unlike f g n = go (T.deg f g) refl
    where
      go : (d : ℕ) → T.deg f g ≡ d → T.deg f g ≡ 0
      go zero e = e
      go (suc d) e = absurd (n (L.alike f g (omega arith)))

  -- the degree of two terms is the lesser of their heads' and their arguments'
  pub degree_min : (f g : ℕ) (ts us : Terms) → degree T (node f ts) (node g us) ≡ min (T.deg f g) (degrees T ts us)
  unfolding degree
  degree_min f g ts us = go (eqb (T.arity f) (T.arity g)) refl (T.deg f g) refl
    where
      go : (b : Bool) → eqb (T.arity f) (T.arity g) ≡ b → (d : ℕ) → T.deg f g ≡ d → joined b d (degrees T ts us) ≡ min d (degrees T ts us)
      go false e d e' = omega (arith, deg_unlike f g (eqb-false _ _ e))
      go true e zero e' = omega arith
      go true e (suc d) e' = refl

  pub degree_top : (t u : Term) → degree T t u ≤ 1000
  degree_top (node f ts) (node g us) = omega (arith, degree_min f g ts us, L.top f g)

-- Two terms' lists are walked together by F, which takes the least of the degrees it passes. Two such walks are used below: `flat`,
-- which asks that the lists end together, and `front`, which asks that the first does not outlast the second.
module _ (T : Table) (L : Lawful T) (F : List ℕ → List ℕ → ℕ) (top : (xs ys : List ℕ) → F xs ys ≤ 1000)
    (step : (x y : ℕ) (xs ys : List ℕ) → F (x ∷ xs) (y ∷ ys) ≡ min (T.deg x y) (F xs ys)) where
  -- one node of each list, where the arguments have been compared if the heads are near
  together_node : (f g : ℕ) (ts us : Terms) (xs ys : List ℕ)
      → (0 < T.deg f g → F (encs ts ++ xs) (encs us ++ ys) ≡ min (degrees T ts us) (F xs ys))
      → F (f ∷ (encs ts ++ xs)) (g ∷ (encs us ++ ys)) ≡ min (degree T (node f ts) (node g us)) (F xs ys)
  together_node f g ts us xs ys k = go (T.deg f g) refl
    where
      go : (d : ℕ) → T.deg f g ≡ d → F (f ∷ (encs ts ++ xs)) (g ∷ (encs us ++ ys)) ≡ min (degree T (node f ts) (node g us)) (F xs ys)
      go zero e = omega (arith, degree_min T L f g ts us, step f g (encs ts ++ xs) (encs us ++ ys))
      go (suc d) e = omega (arith, degree_min T L f g ts us, step f g (encs ts ++ xs) (encs us ++ ys), k (omega arith))

  mutual
    unfolding degrees

    pub together : (t u : Term) (xs ys : List ℕ) → Over T t → Over T u → F (enc t ++ xs) (enc u ++ ys) ≡ min (degree T t u) (F xs ys)
    together (node f ts) (node g us) xs ys ht hu =
        together_node f g ts us xs ys (λ p. togethers ts us xs ys (ht.1 ∙ L.alike f g p ∙ inv hu.1) ht.2 hu.2)

    togethers : (ts us : Terms) (xs ys : List ℕ) → count ts ≡ count us → Overs T ts → Overs T us
        → F (encs ts ++ xs) (encs us ++ ys) ≡ min (degrees T ts us) (F xs ys)
    togethers ∅ ∅ xs ys e ht hu = omega (arith, top xs ys)
    togethers ∅ (u ▹ us) xs ys e ht hu = omega arith
    togethers (t ▹ ts) ∅ xs ys e ht hu = omega arith
    togethers (t ▹ ts) (u ▹ us) xs ys e ht hu =
        rw (append_assoc (enc t) (encs ts) xs, append_assoc (enc u) (encs us) ys)
        (omega (arith, together t u (encs ts ++ xs) (encs us ++ ys) ht.0 hu.0, togethers ts us xs ys (omega arith) ht.1 hu.1))

  pub together_whole : (t u : Term) → Over T t → Over T u → F [] [] ≡ 1000 → degree T t u ≡ F (enc t) (enc u)
  together_whole t u ht hu e =
      let w : F (enc t ++ []) (enc u ++ []) ≡ min (degree T t u) (F [] []) = together t u [] [] ht hu in
      inv (rw (append-nil (enc t), append-nil (enc u)) at w ∙ omega (arith, degree_top T L t u))

-- as `flat`, but the second list may be longer
abbrev pub front : (ℕ → ℕ → ℕ) → List ℕ → List ℕ → ℕ
front d [] ys = 1000
front d (x ∷ xs) [] = 0
front d (x ∷ xs) (y ∷ ys) = min (d x y) (front d xs ys)

front_top : (d : ℕ → ℕ → ℕ) (xs ys : List ℕ) → front d xs ys ≤ 1000
front_top d [] ys = omega arith
front_top d (x ∷ xs) [] = omega arith
front_top d (x ∷ xs) (y ∷ ys) = omega (arith, front_top d xs ys)

front_at : (d : ℕ → ℕ → ℕ) (m z : ℕ) (xs ys : List ℕ) → m ≤ front d xs ys → (k : ℕ) → k < length xs → m ≤ d (get_or xs k z) (get_or ys k z)
front_at d m z [] ys h k l = absurd (not-suc-le-zero l)
front_at d m z (x ∷ xs) [] h k l = omega arith
front_at d m z (x ∷ xs) (y ∷ ys) h zero l = omega arith
front_at d m z (x ∷ xs) (y ∷ ys) h (suc k) l = front_at d m z xs ys (omega arith) k (omega arith)

at_front : (d : ℕ → ℕ → ℕ) (m z : ℕ) → ((x : ℕ) → d x z ≡ 0) → m ≤ 1000 → (xs ys : List ℕ)
    → ((k : ℕ) → k < length xs → m ≤ d (get_or xs k z) (get_or ys k z)) → m ≤ front d xs ys
at_front d m z no-z b [] ys h = b
at_front d m z no-z b (x ∷ xs) [] h = omega (arith, h 0 (omega arith), no-z x)
at_front d m z no-z b (x ∷ xs) (y ∷ ys) h = omega (arith, h 0 (omega arith), at_front d m z no-z b xs ys (λ k l. h (suc k) (omega arith)))

flat_length : (d : ℕ → ℕ → ℕ) (xs ys : List ℕ) → 0 < flat d xs ys → length xs ≡ length ys
flat_length d [] [] h = refl
flat_length d [] (y ∷ ys) h = omega arith
flat_length d (x ∷ xs) [] h = omega arith
flat_length d (x ∷ xs) (y ∷ ys) h = ap suc (flat_length d xs ys (omega arith))

module _ (T : Table) (L : Lawful T) where
  -- LAW: the degree of two terms is the least over the positions of their lists, 0 if one is longer
  pub degree_flat : (t u : Term) → Over T t → Over T u → degree T t u ≡ flat T.deg (enc t) (enc u)
  degree_flat t u ht hu = together_whole T L (flat T.deg) (flat_top T.deg) (λ x y xs ys. refl) t u ht hu refl

  degree_front : (t u : Term) → Over T t → Over T u → degree T t u ≡ front T.deg (enc t) (enc u)
  degree_front t u ht hu = together_whole T L (front T.deg) (front_top T.deg) (λ x y xs ys. refl) t u ht hu refl

  -- T's size is no symbol
  pub deg_outside : (a : ℕ) → T.deg a T.size ≡ 0
  deg_outside a = go (T.deg a T.size) refl
    where
      go : (d : ℕ) → T.deg a T.size ≡ d → d ≡ 0
      go zero e = refl
      go (suc d) e = omega (arith, (L.inside a T.size (omega arith)).1)

  -- LAW: the degree of t and u reaches m exactly if at each position of t the symbols' does
  pub reach_at : (m : ℕ) (t u : Term) → Over T t → Over T u → m ≤ degree T t u → (k : ℕ) → k < size t → m ≤ T.deg (at T t k) (at T u k)
  reach_at m t u ht hu h = front_at T.deg m T.size (enc t) (enc u) (rw (degree_front t u ht hu) at h)

  pub at_reach : (m : ℕ) (t u : Term) → Over T t → Over T u → m ≤ 1000 → ((k : ℕ) → k < size t → m ≤ T.deg (at T t k) (at T u k)) → m ≤ degree T t u
  at_reach m t u ht hu b h = rw (degree_front t u ht hu) (at_front T.deg m T.size deg_outside b (enc t) (enc u) h)

  -- terms with a degree above 0 have as many positions
  pub reach_size : (t u : Term) → Over T t → Over T u → 0 < degree T t u → size t ≡ size u
  reach_size t u ht hu h = flat_length T.deg (enc t) (enc u) (rw (degree_flat t u ht hu) at h)
