-- Where strings rise none stands twice: the order is passed on, and no string stands before itself.
use mathlib.Core.Path.{◌≡◌, refl, sym as inv, ap, ◌∙◌}
use mathlib.Core.Logic.{◌⊎◌, inl, inr}
use mathlib.Core.List.{List, [], ◌∷◌}
use mathlib.Core.Bool.{Bool, true, false, ◌&&◌, ◌||◌, false≢true}
use Prim.Native.Nat.{ℕ, zero, suc, ◌-◌, ◌<◌}
use native.Mathlib.Decide.{dec_lt}
use native.Mathlib.Omega.{arith}
use lib.Dec.{eqb, ltb}
use lib.ListN.{length, get_or, take, drop}
use borrow.Author.Tests.{ltb-true, eqb-true, lt-ltb, eq-eqb}
use Rattle.theory.specs.Least.{some}
use Rattle.theory.proofs.Lemmas.{or_right, or_left}
use Rattle.marc.specs.Known.{known, entry_of, same, known_from, known_in}
use Rattle.marc.specs.Order.{before, Rises}
use Rattle.marc.proofs.Strings.{same_true, none-same}

-- what the test says of two strings that begin
abbrev Begins : ℕ → ℕ → List ℕ → List ℕ → Type 0
Begins a b xs ys = (a < b) ⊎ ((a ≡ b) × (before xs ys ≡ true))

begins : (a b : ℕ) (xs ys : List ℕ) → before (a ∷ xs) (b ∷ ys) ≡ true → Begins a b xs ys
begins a b xs ys e = go (ltb a b) refl (eqb a b) refl e
  where
    go : (p : Bool) → ltb a b ≡ p → (q : Bool) → eqb a b ≡ q → (p || (q && before xs ys)) ≡ true → Begins a b xs ys
    go true p q' q e = inl (ltb-true a b p)
    go false p true q e = inr (eqb-true a b q, e)
    go false p false q e = absurd (false≢true e)

begun : (a b : ℕ) (xs ys : List ℕ) → Begins a b xs ys → before (a ∷ xs) (b ∷ ys) ≡ true
begun a b xs ys (inl l) = or_left (ltb a b) (eqb a b && before xs ys) (lt-ltb a b l)
begun a b xs ys (inr q) = or_right (ltb a b) (eqb a b && before xs ys) (rw (eq-eqb a b q.0) q.1)

-- no string stands before itself
not_itself : (xs : List ℕ) → before xs xs ≡ true → ⊥
not_itself [] e = false≢true e
not_itself (a ∷ xs) e = go (begins a a xs xs e) (not_itself xs)
  where
    go : Begins a a xs xs → (before xs xs ≡ true → ⊥) → ⊥
    go (inl l) never = omega arith
    go (inr q) never = never q.1

-- LAW: the order is passed on
pub passed_on : (xs ys zs : List ℕ) → before xs ys ≡ true → before ys zs ≡ true → before xs zs ≡ true
passed_on [] [] zs p q = absurd (false≢true p)
passed_on [] (y ∷ ys) [] p q = absurd (false≢true q)
passed_on [] (y ∷ ys) (z ∷ zs) p q = refl
passed_on (x ∷ xs) [] zs p q = absurd (false≢true p)
passed_on (x ∷ xs) (y ∷ ys) [] p q = absurd (false≢true q)
passed_on (x ∷ xs) (y ∷ ys) (z ∷ zs) p q = begun x z xs zs (go (begins x y xs ys p) (begins y z ys zs q) (passed_on xs ys zs))
  where
    go : Begins x y xs ys → Begins y z ys zs → (before xs ys ≡ true → before ys zs ≡ true → before xs zs ≡ true) → Begins x z xs zs
    go (inl a) (inl b) on = inl (omega arith)
    go (inl a) (inr b) on = inl (omega (arith, b.0))
    go (inr a) (inl b) on = inl (omega (arith, a.0))
    go (inr a) (inr b) on = inr (a.0 ∙ b.0, on a.1 b.1)

-- LAW: a string that stands before another, or after it, is not the same
pub lower_differs : (xs ys : List ℕ) → before xs ys ≡ true → same xs ys ≡ false
lower_differs xs ys p = go (same xs ys) refl
  where
    go : (b : Bool) → same xs ys ≡ b → same xs ys ≡ false
    go true e = absurd (not_itself xs (ap (before xs) (same_true xs ys e) ∙ p))
    go false e = e

pub higher_differs : (xs ys : List ℕ) → before ys xs ≡ true → same xs ys ≡ false
higher_differs xs ys p = go (same xs ys) refl
  where
    go : (b : Bool) → same xs ys ≡ b → same xs ys ≡ false
    go true e = absurd (not_itself ys (ap (before ys) (inv (same_true xs ys e)) ∙ p))
    go false e = e

module _ (string : ℕ → List ℕ) (n : ℕ) (rising : Rises string n) where
  -- LAW: of any two strings the earlier one stands before the other
  pub far : (j i : ℕ) → i < j → j < n → before (string i) (string j) ≡ true
  far zero i l m = absurd (omega arith)
  far (suc j) i l m = go (dec_lt i j) (λ l. far j i l (omega arith))
    where
      go : Dec (i < j) → (i < j → before (string i) (string j) ≡ true) → before (string i) (string (suc j)) ≡ true
      go (yes d) on = passed_on (string i) (string j) (string (suc j)) (on d) (rising j m)
      go (no d) on = let e : i ≡ j = omega arith in rw e (rising j m)

  -- LAW: no string stands twice
  pub none_twice : (j : ℕ) → j < n → some j (λ i. same (string i) (string j)) ≡ false
  none_twice j m = none-same string j (λ i l e. not_itself (string i) (ap (before (string i)) e ∙ far j i l m))

-- ---- the list as it is lent

-- where string j begins
abbrev pub start_of : ℕ → List ℕ → ℕ → ℕ
start_of start ends zero = start
start_of start ends (suc j) = get_or ends j 0

-- LAW: entry j, by the three lists
entry_from : (text : List ℕ) (j start : ℕ) (ends numbers : List ℕ) → j < length ends → j < length numbers
    → entry_of (known_from text start ends numbers) j ≡ known (take (get_or ends j 0 - start_of start ends j) (drop (start_of start ends j) text)) (get_or numbers j 0)
entry_from text j start [] numbers l m = absurd (omega arith)
entry_from text j start (end ∷ ends) [] l m = absurd (omega arith)
entry_from text zero start (end ∷ ends) (n ∷ numbers) l m = refl
entry_from text (suc zero) start (end ∷ ends) (n ∷ numbers) l m = entry_from text zero end ends numbers (omega arith) (omega arith)
entry_from text (suc (suc j)) start (end ∷ ends) (n ∷ numbers) l m = entry_from text (suc j) end ends numbers (omega arith) (omega arith)

pub entry_in : (text ends numbers : List ℕ) (j : ℕ) → j < length ends → j < length numbers
    → entry_of (known_in text ends numbers) j ≡ known (take (get_or ends j 0 - start_of 0 ends j) (drop (start_of 0 ends j) text)) (get_or numbers j 0)
unfolding known_in
entry_in text ends numbers j l m = entry_from text j 0 ends numbers l m
