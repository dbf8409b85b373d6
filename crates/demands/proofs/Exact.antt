-- What it comes to that an answer is refused exactly by its rows: the first row that holds gives its refusal, the answer gives no number that no row has,
-- and by a number that one row has it is refused exactly if that row holds and none before it does.
use mathlib.Core.Path.{◌≡◌, refl, sym as inv, ◌∙◌}
use mathlib.Core.Logic.{◌↔◌}
use mathlib.Core.List.{List, [], ◌∷◌, ◌++◌, map}
use mathlib.Core.Bool.{Bool, false, ◌||◌, false≢true}
use mathlib.Core.Option.{Option, none, some as just, some-ne-none, none-ne-some}
use Prim.Native.Nat.{ℕ}
use native.Mathlib.Omega.{arith}
use lib.Dec.{eqb}
use borrow.Author.Tests.{eq-eqb}
use Rattle.theory.proofs.Lemmas.{both_false}
use Rattle.meaning.specs.Refusals.{Refusal, refusal, Row, row, row_number, first}
use Rattle.meaning.specs.Calls.{Answer, refused, gives}
use Rattle.meaning.specs.Demands.{Exactly}
use Rattle.meaning.proofs.First.{first_given, given_first}

-- an answer is no refusal
pub not_both : {A : Type 0} (x : A) (n place : ℕ) → gives x ≡ refused n place → ⊥
not_both x n place e = let z : ◌≡◌ {A = ℕ} 0 1 = cc in omega arith

module _ {A : Type 0} (rows : List Row) (a : Answer A) (e : Exactly rows a) where
  pub by_refusal : (n place : ℕ) → first rows ≡ just (refusal n place) → a ≡ refused n place
  by_refusal n place q = (e.given n place).1 (first_given rows n place q)

  pub of_refusal : (n place : ℕ) → a ≡ refused n place → first rows ≡ just (refusal n place)
  of_refusal n place q = given_first rows n place ((e.given n place).0 q)

  pub by_none : first rows ≡ none → (x : A) × (a ≡ gives x)
  by_none q = e.otherwise (λ n place g. some-ne-none (refusal n place) (inv (given_first rows n place g) ∙ q))

  pub of_answer : (x : A) → a ≡ gives x → first rows ≡ none
  of_answer x q = go (first rows) refl
    where
      go : (o : Option Refusal) → first rows ≡ o → first rows ≡ none
      go none f = f
      go (just (refusal n place)) f = absurd (not_both x n place (inv q ∙ by_refusal n place f))

-- LAW: two of them are equal if they are where no row refuses
pub same_answer : {A : Type 0} (rows : List Row) (a b : Answer A) → Exactly rows a → Exactly rows b → (first rows ≡ none → a ≡ b) → a ≡ b
same_answer rows a b e f k = go (first rows) refl
  where
    go : (o : Option Refusal) → first rows ≡ o → a ≡ b
    go none q = k q
    go (just (refusal n place)) q = by_refusal rows a e n place q ∙ inv (by_refusal rows b f n place q)

-- ---- by one number

-- a number is among others
abbrev pub among : ℕ → List ℕ → Bool
among n [] = false
among n (m ∷ ms) = eqb m n || among n ms

pub no_row : (n : ℕ) (rows : List Row) (place : ℕ) → among n (map row_number rows) ≡ false → first rows ≡ just (refusal n place) → ⊥
no_row n [] place h e = none-ne-some (refusal n place) e
no_row n (row m none ∷ rows) place h e = no_row n rows place (both_false (eqb m n) _ h).1 e
no_row n (row m (just i) ∷ rows) place h e =
    let q : m ≡ n = cc in
    false≢true (inv (both_false (eqb m n) _ h).0 ∙ eq-eqb m n q)

-- the refusal by n that rows with one such row give
module _ (n : ℕ) (o : Option ℕ) (after : List Row) (a : among n (map row_number after) ≡ false) where
  there : (before : List Row) → among n (map row_number before) ≡ false → (place : ℕ) → first (before ++ (row n o ∷ after)) ≡ just (refusal n place)
      → (first before ≡ none) × (first (row n o ∷ []) ≡ none → ⊥)
  there [] b place e = (refl, λ none_here. here o none_here e)
    where
      here : (o : Option ℕ) → first (row n o ∷ []) ≡ none → first (row n o ∷ after) ≡ just (refusal n place) → ⊥
      here (just i) q e = some-ne-none (refusal n i) q
      here none q e = no_row n after place a e
  there (row m none ∷ before) b place e = there before (both_false (eqb m n) _ b).1 place e
  there (row m (just i) ∷ before) b place e = absurd (no_row n (row m (just i) ∷ before) place b e)

  back : (before : List Row) → first before ≡ none → (first (row n o ∷ []) ≡ none → ⊥) → (place : ℕ) × (first (before ++ (row n o ∷ after)) ≡ just (refusal n place))
  back [] q some = here o some
    where
      here : (o : Option ℕ) → (first (row n o ∷ []) ≡ none → ⊥) → (place : ℕ) × (first (row n o ∷ after) ≡ just (refusal n place))
      here (just i) some = (i, refl)
      here none some = absurd (some refl)
  back (row m none ∷ before) q some = back before q some
  back (row m (just i) ∷ before) q some = absurd (some-ne-none (refusal m i) q)

-- LAW
pub by_one_row : {A : Type 0} (n : ℕ) (o : Option ℕ) (before after : List Row) → among n (map row_number before) ≡ false → among n (map row_number after) ≡ false
    → (a : Answer A) → Exactly (before ++ (row n o ∷ after)) a → ((place : ℕ) × (a ≡ refused n place)) ↔ ((first before ≡ none) × (first (row n o ∷ []) ≡ none → ⊥))
by_one_row n o before after b f a e = (
  (λ r. there n o after f before b r.0 (of_refusal (before ++ (row n o ∷ after)) a e n r.0 r.1)),
  (λ q. let r = back n o after f before q.0 q.1 in (r.0, by_refusal (before ++ (row n o ∷ after)) a e n r.0 r.1)),
)
