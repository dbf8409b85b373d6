-- Pairs that rise: the test says that one pair stands after another, and that is passed on, so each pair of a list that rises step by step
-- stands after all those before it.
use mathlib.Core.Path.{◌≡◌, refl, ◌∙◌}
use mathlib.Core.Logic.{◌⊎◌, inl, inr}
use mathlib.Core.List.{List, [], ◌∷◌}
use mathlib.Core.Bool.{Bool, true, false, ◌&&◌, ◌||◌, false≢true}
use Prim.Native.Nat.{ℕ, zero, suc, ◌<◌}
use native.Mathlib.Omega.{arith}
use lib.Dec.{eqb, ltb}
use lib.ListN.{length}
use borrow.Author.Tests.{ltb-true, lt-ltb, eqb-true, eq-eqb, not-false}
use Rattle.theory.specs.Least.{All}
use Rattle.theory.specs.Pairs.{Pair, pair}
use Rattle.theory.proofs.Lemmas.{all_map, or_right}
use Rattle.meaning.specs.Refusals.{rises, unordered}

-- the second stands after the first
abbrev pub After : Pair → Pair → Type 0
After (pair l h d) (pair l' h' d') = (l < l') ⊎ ((l ≡ l') × (h < h'))

-- LAW: the test says so, and only then
pub rises_after : (a b : Pair) → rises a b ≡ true → After a b
rises_after (pair l h d) (pair l' h' d') e = go (ltb l l') refl (eqb l l') refl (ltb h h') refl e
  where
    go : (p : Bool) → ltb l l' ≡ p → (q : Bool) → eqb l l' ≡ q → (r : Bool) → ltb h h' ≡ r → (p || (q && r)) ≡ true → (l < l') ⊎ ((l ≡ l') × (h < h'))
    go true p q' q r' r e = inl (ltb-true l l' p)
    go false p true q true r e = inr (eqb-true l l' q, ltb-true h h' r)
    go false p true q false r e = absurd (false≢true e)
    go false p false q r' r e = absurd (false≢true e)

pub after_rises : (a b : Pair) → After a b → rises a b ≡ true
after_rises (pair l h d) (pair l' h' d') (inl p) = rw (lt-ltb l l' p)
after_rises (pair l h d) (pair l' h' d') (inr p) = or_right (ltb l l') (eqb l l' && ltb h h') (rw (eq-eqb l l' p.0, lt-ltb h h' p.1))

after_on : (a b c : Pair) → After a b → After b c → After a c
after_on (pair l h d) (pair l' h' d') (pair l'' h'' d'') (inl p) (inl q) = inl (omega arith)
after_on (pair l h d) (pair l' h' d') (pair l'' h'' d'') (inl p) (inr q) = inl (omega (arith, q.0))
after_on (pair l h d) (pair l' h' d') (pair l'' h'' d'') (inr p) (inl q) = inl (omega (arith, p.0))
after_on (pair l h d) (pair l' h' d') (pair l'' h'' d'') (inr p) (inr q) = inr (p.0 ∙ q.0, omega (arith, p.1, q.1))

-- each stands after all those before it
abbrev pub Sorted : List Pair → Type 0
Sorted [] = Unit {0}
Sorted (p ∷ ps) = All (After p) ps × Sorted ps

-- LAW: pairs that rise step by step
pub sorted : (ps : List Pair) → ((k : ℕ) → k < length ps → unordered ps k ≡ false) → Sorted ps
sorted [] h = tt
sorted (a ∷ []) h = (tt, tt)
sorted (a ∷ (b ∷ ps)) h =
    let s = sorted (b ∷ ps) (λ k l. next k l) in
    let r : After a b = rises_after a b (not-false (rises a b) (h 1 (omega arith))) in
    ((r, all_map ps (λ c q. after_on a b c r q) s.0), s)
  where
    next : (k : ℕ) → k < length (b ∷ ps) → unordered (b ∷ ps) k ≡ false
    next zero l = refl
    next (suc k) l = h (suc (suc k)) (omega arith)
