-- A table whose pairs are sound is lawful, and only a symbol with itself has degree 1000 there.
use mathlib.Core.Path.{◌≡◌, refl, sym as inv, ap, ◌∙◌}
use mathlib.Core.List.{List, [], ◌∷◌}
use mathlib.Core.Bool.{Bool, true, false, ◌&&◌, ◌||◌, cond}
use Prim.Native.Nat.{ℕ, ◌≤◌, ◌<◌}
use native.Mathlib.Omega.{arith}
use lib.Dec.{eqb, ltb}
use borrow.Author.Tests.{ltb-true, lt-ltb, eqb-true, eq-eqb, ne_eqb, eqb-false}
use lib.ListN.{length, get_or}
use Rattle.theory.specs.Least.{All}
use Rattle.theory.specs.Table.{Lawful, OnlyItself}
use Rattle.theory.specs.Pairs.{Pair, pair, listed, degree_in, table_of, listed_top, SoundPair}

eqb_swap : (a b : ℕ) → eqb a b ≡ eqb b a
eqb_swap a b = go (eqb a b) refl
  where
    go : (t : Bool) → eqb a b ≡ t → t ≡ eqb b a
    go true e = inv (eq-eqb b a (inv (eqb-true a b e)))
    go false e = inv (ne_eqb b a (λ q. eqb-false a b e (inv q)))

swap : (p q r s : Bool) → ((p && q) || (r && s)) ≡ ((s && r) || (q && p))
swap true true true true = refl
swap true true true false = refl
swap true true false true = refl
swap true true false false = refl
swap true false true true = refl
swap true false true false = refl
swap true false false true = refl
swap true false false false = refl
swap false true true true = refl
swap false true true false = refl
swap false true false true = refl
swap false true false false = refl
swap false false true true = refl
swap false false true false = refl
swap false false false true = refl
swap false false false false = refl

listed_swap : (ps : List Pair) (a b : ℕ) → listed ps a b ≡ listed ps b a
listed_swap [] a b = refl
listed_swap (pair l h d ∷ ps) a b =
    rw (swap (eqb a l) (eqb b h) (eqb a h) (eqb b l), listed_swap ps a b)

and_swap : (a b : Bool) → (a && b) ≡ (b && a)
and_swap true true = refl
and_swap true false = refl
and_swap false true = refl
and_swap false false = refl

module _ (arities : List ℕ) where
  -- what is listed for a and b is sound, if it is above 0
  listed_sound : (ps : List Pair) → All (SoundPair arities) ps → (a b : ℕ) → (listed ps a b ≤ listed_top) × (0 < listed ps a b → get_or arities a 0 ≡ get_or arities b 0)
  listed_sound [] s a b = (omega arith, λ h. absurd (omega arith))
  listed_sound (pair l h d ∷ ps) s a b = go (eqb a l) refl (eqb b h) refl (eqb a h) refl (eqb b l) refl (listed_sound ps s.1 a b)
    where
      R : ℕ → Type 0
      R n = (n ≤ listed_top) × (0 < n → get_or arities a 0 ≡ get_or arities b 0)

      straight : eqb a l ≡ true → eqb b h ≡ true → R d
      straight e f = (s.0.4, λ q. ap (λ x. get_or arities x 0) (eqb-true a l e) ∙ s.0.2 ∙ ap (λ x. get_or arities x 0) (inv (eqb-true b h f)))

      across : eqb a h ≡ true → eqb b l ≡ true → R d
      across e f = (s.0.4, λ q. ap (λ x. get_or arities x 0) (eqb-true a h e) ∙ inv s.0.2 ∙ ap (λ x. get_or arities x 0) (inv (eqb-true b l f)))

      go : (p : Bool) → eqb a l ≡ p → (q : Bool) → eqb b h ≡ q → (r : Bool) → eqb a h ≡ r → (t : Bool) → eqb b l ≡ t → R (listed ps a b)
          → R (cond ((p && q) || (r && t)) d (listed ps a b))
      go true e true f r g t k more = straight e f
      go true e false f true g true k more = across g k
      go true e false f true g false k more = more
      go true e false f false g t k more = more
      go false e q f true g true k more = across g k
      go false e q f true g false k more = more
      go false e q f false g t k more = more

  abbrev Good : ℕ → ℕ → ℕ → Type 0
  Good a b n = (n ≤ 1000) × (0 < n → ((a < length arities) × (b < length arities)) × (get_or arities a 0 ≡ get_or arities b 0))

  degree_good : (ps : List Pair) → All (SoundPair arities) ps → (a b : ℕ) → Good a b (degree_in (length arities) ps a b)
  degree_good ps s a b = go (ltb a (length arities)) refl (ltb b (length arities)) refl (eqb a b) refl
    where
      go : (p : Bool) → ltb a (length arities) ≡ p → (q : Bool) → ltb b (length arities) ≡ q → (r : Bool) → eqb a b ≡ r
          → Good a b (cond (p && q) (cond r 1000 (listed ps a b)) 0)
      go false e q f r g = (omega arith, λ h. absurd (omega arith))
      go true e false f r g = (omega arith, λ h. absurd (omega arith))
      go true e true f true g = (omega arith, λ h. ((ltb-true _ _ e, ltb-true _ _ f), ap (λ x. get_or arities x 0) (eqb-true a b g)))
      go true e true f false g = (omega (arith, (listed_sound ps s a b).0), λ h. ((ltb-true _ _ e, ltb-true _ _ f), (listed_sound ps s a b).1 h))

  -- a table whose pairs are sound is lawful
  pub lawful : (ps : List Pair) → All (SoundPair arities) ps → Lawful (table_of arities ps)
  lawful ps s =
      record {
        itself = λ a l. rw (lt-ltb a (length arities) l, eq-eqb a a refl);
        either = λ a b. rw (and_swap (ltb a (length arities)) (ltb b (length arities)), eqb_swap a b, listed_swap ps a b);
        top = λ a b. (degree_good ps s a b).0;
        inside = λ a b q. ((degree_good ps s a b).1 q).0;
        alike = λ a b q. ((degree_good ps s a b).1 q).1;
      }

  -- LAW: two different symbols never have degree 1000
  pub only_itself : (ps : List Pair) → All (SoundPair arities) ps → OnlyItself (table_of arities ps)
  only_itself ps s a b = go (ltb a (length arities) && ltb b (length arities)) (eqb a b) refl
    where
      go : (p q : Bool) → eqb a b ≡ q → cond p (cond q 1000 (listed ps a b)) 0 ≡ 1000 → a ≡ b
      go false q e k = absurd (omega arith)
      go true true e k = eqb-true a b e
      go true false e k = absurd (omega (arith, (listed_sound ps s a b).0))
