-- The law of `first`, which passes over rows until one holds: a refusal is given exactly if its row holds there and no row before it holds.
-- So a call that answers unless a row refuses, refuses exactly by its rows.
use mathlib.Core.Path.{◌≡◌, refl, sym as inv, ap, ◌∙◌}
use mathlib.Core.Logic.{◌↔◌}
use mathlib.Core.List.{List, [], ◌∷◌, ◌++◌}
use mathlib.Core.Option.{Option, none, some as just, some-ne-none}
use Prim.Native.Nat.{ℕ, zero, suc, ◌+◌, ◌-◌, ◌≤◌, ◌<◌}
use native.Mathlib.Nat.{not-suc-le-zero}
use native.Mathlib.Numerals.{add-one}
use native.Mathlib.Omega.{arith}
use native.Mathlib.Decide.{dec_lt}
use mathlib.Core.Bool.{Bool, true, false, cond}
use Rattle.theory.specs.Least.{least_below, last_below, All}
use lib.ListN.{length, get_or}
use Rattle.meaning.specs.Refusals.{Refusal, refusal, Row, row, row_place, first, Given, row1_short, row1_offsets, row2, row3, row4, row5, row6, row7, row8, row8-output, row9, row10, row13, row14, table_rows}
use Rattle.meaning.specs.Calls.{refused, gives, unless, symbol_rows, degree_rows, subterm_rows, input_rows, search_rows, match_rows, writer_rows, back_rows}
use Rattle.meaning.specs.Saved.{row8-words, widen_rows}
use Rattle.meaning.specs.Demands.{Exactly, Order}

-- a row more in front, which does not hold
more : (m : ℕ) (rows : List Row) (n place : ℕ) → Given rows n place → Given (row m none ∷ rows) n place
more m rows n place g = record { index = suc g.index; inside = omega (arith, g.inside); holds = g.holds; none_before = before }
  where
    before : (k : ℕ) → k < suc g.index → (j : ℕ) × (get_or (row m none ∷ rows) k (row 0 none) ≡ row j none)
    before zero l = (m, refl)
    before (suc k) l = g.none_before k (omega arith)

pub first_given : (rows : List Row) (n place : ℕ) → first rows ≡ just (refusal n place) → Given rows n place
first_given [] n place e = absurd (some-ne-none (refusal n place) (inv e))
first_given (row m (just i) ∷ rows) n place e =
    record { index = 0; inside = omega arith; holds = cc; none_before = λ k l. absurd (not-suc-le-zero l) }
first_given (row m none ∷ rows) n place e = more m rows n place (first_given rows n place e)

pub given_first : (rows : List Row) (n place : ℕ) → Given rows n place → first rows ≡ just (refusal n place)
given_first rows n place g = go rows g.index g.inside g.holds g.none_before
  where
    go : (rows : List Row) (i : ℕ) → i < length rows → get_or rows i (row 0 none) ≡ row n (just place)
        → ((k : ℕ) → k < i → (m : ℕ) × (get_or rows k (row 0 none) ≡ row m none)) → first rows ≡ just (refusal n place)
    go [] i l e b = absurd (not-suc-le-zero l)
    go (row m (just j) ∷ rows) zero l e b = cc
    go (row m none ∷ rows) zero l e b = let z : ◌≡◌ {A = ℕ} 0 1 = cc in absurd (omega arith)
    go (row m (just j) ∷ rows) (suc i) l e b =
        let q = (b 0 (omega arith)).1 in let z : ◌≡◌ {A = ℕ} 0 1 = cc in absurd (omega arith)
    go (row m none ∷ rows) (suc i) l e b = go rows i (omega arith) e (λ k l. b (suc k) (omega arith))

-- LAW: `first` gives a refusal exactly if its row holds there and none before it does
pub first_exactly : (rows : List Row) (n place : ℕ) → first rows ≡ just (refusal n place) ↔ Given rows n place
first_exactly rows n place = (first_given rows n place, given_first rows n place)

-- ---- calls that are refused by rows

module _ {A : Type 0} where
  pub unless_refused : (o : Option Refusal) (a : A) (n place : ℕ) → unless o a ≡ refused n place → o ≡ just (refusal n place)
  unless_refused none a n place e = let z : ◌≡◌ {A = ℕ} 0 1 = cc in absurd (omega arith)
  unless_refused (just (refusal m i)) a n place e = cc

  pub unless_gives : (o : Option Refusal) (a b : A) → unless o a ≡ gives b → (o ≡ none) × (a ≡ b)
  unless_gives none a b e = (refl, cc)
  unless_gives (just (refusal m i)) a b e = let z : ◌≡◌ {A = ℕ} 0 1 = cc in absurd (omega arith)

  -- LAW: such a call refuses exactly by its rows
  pub exactly : (rows : List Row) (a : A) → Exactly rows (unless (first rows) a)
  exactly rows a =
      record {
        given = λ n place. (
          (λ e. first_given rows n place (unless_refused (first rows) a n place e)),
          (λ g. ap (λ o. unless o a) (given_first rows n place g)),
        );
        otherwise = λ no. go no (first rows) refl;
      }
    where
      go : ((n place : ℕ) → Given rows n place → ⊥) → (o : Option Refusal) → first rows ≡ o → (b : A) × (unless o a ≡ gives b)
      go never none e = (a, refl)
      go never (just (refusal n place)) e = absurd (never n place (first_given rows n place e))

-- THEOREM: the rows of each call stand in their order, whatever is lent
pub order : Order
unfolding symbol_rows degree_rows subterm_rows match_rows input_rows search_rows writer_rows back_rows widen_rows row8-words table_rows row1_short row1_offsets row2 row3 row4 row5 row6 row7 row8 row8-output row9 row10 row13 row14
order =
    record {
      is_table_lem-is = λ table. refl;
      symbol_degree_lem-is = λ table a b. refl;
      heading_degree_lem = λ table one two. refl;
      subterm = λ table term. refl;
      match = λ table pattern heading cut spans sets. refl;
      writer = λ arities pairs output. refl;
      back = λ table index count. refl;
      widen = λ words output. refl;
    }

-- ---- rows in two parts

pub first-append : (xs ys : List Row) → first xs ≡ none → first (xs ++ ys) ≡ first ys
first-append [] ys e = refl
first-append (row n (just i) ∷ xs) ys e = absurd (some-ne-none (refusal n i) e)
first-append (row n none ∷ xs) ys e = first-append xs ys e

pub append-none : (xs ys : List Row) → first (xs ++ ys) ≡ none → (first xs ≡ none) × (first ys ≡ none)
append-none [] ys e = (refl, e)
append-none (row n (just i) ∷ xs) ys e = absurd (some-ne-none (refusal n i) e)
append-none (row n none ∷ xs) ys e = append-none xs ys e

-- no row holds
abbrev pub Silent : Row → Type 0
Silent r = row_place r ≡ none

pub all_silent : (rows : List Row) → first rows ≡ none → All Silent rows
all_silent [] e = tt
all_silent (row n none ∷ rows) e = (refl, all_silent rows e)
all_silent (row n (just i) ∷ rows) e = absurd (some-ne-none (refusal n i) e)

pub silent_first : (rows : List Row) → All Silent rows → first rows ≡ none
silent_first [] h = refl
silent_first (row n none ∷ rows) h = silent_first rows h.1
silent_first (row n (just i) ∷ rows) h = absurd (some-ne-none i h.0)

-- ---- the least number that passes, as a loop seeks it

-- none below k, and k does not pass
pub least_on : (b : ℕ → Bool) (k : ℕ) → least_below k b ≡ none → b k ≡ false → least_below (suc k) b ≡ none
least_on b k e q = rw (e, q)

-- none below n
pub none_below : (b : ℕ → Bool) (n : ℕ) → ((k : ℕ) → k < n → b k ≡ false) → least_below n b ≡ none
none_below b zero h = refl
none_below b (suc n) h = least_on b n (none_below b n (λ k l. h k (omega arith))) (h n (omega arith))

-- none below k, and k passes
pub least_at : (b : ℕ → Bool) (k n : ℕ) → least_below k b ≡ none → b k ≡ true → k < n → least_below n b ≡ just k
least_at b k zero e q l = absurd (not-suc-le-zero l)
least_at b k (suc n) e q l = go (dec_lt k n) (least_at b k n e q)
  where
    go : Dec (k < n) → (k < n → least_below n b ≡ just k) → least_below (suc n) b ≡ just k
    go (yes m) rest = rw (rest m)
    go (no m) rest =
        let s : n ≡ k = omega arith in
        rw (s, e, q)

-- ---- the last number that passes, as a chain leads from one to the one before

-- m is 1 and the last number below n that passes, or 0
pub record Last (b : ℕ → Bool) (n m : ℕ) : Type 0 where
  pub within : m ≤ n
  pub is : 0 < m → b (m - 1) ≡ true
  pub none : (j : ℕ) → m ≤ j → j < n → b j ≡ false

module _ (b : ℕ → Bool) where
  pub last_here : (n : ℕ) → b n ≡ true → last_below (n + 1) b ≡ n + 1
  unfolding last_below
  last_here n e = rw (add-one n, e)

  pub last_before : (n : ℕ) → b n ≡ false → last_below (n + 1) b ≡ last_below n b
  unfolding last_below
  last_before n e = rw (add-one n, e)

  pub last_below_lem : (n : ℕ) → Last b n (last_below n b)
  unfolding last_below
  last_below_lem zero = record { within = omega arith; is = λ l. absurd (omega arith); none = λ j l m. absurd (omega arith) }
  last_below_lem (suc n) = go (b n) refl (last_below_lem n)
    where
      go : (passes : Bool) → b n ≡ passes → Last b n (last_below n b) → Last b (suc n) (cond passes (suc n) (last_below n b))
      go true e before =
          let last : suc n - 1 ≡ n = omega arith in
          record { within = omega arith; is = λ l. ap b last ∙ e; none = λ j l m. absurd (omega arith) }
      go false e before =
          record { within = omega (arith, before.within); is = before.is; none = λ j l m. below j l m (dec_lt j n) }
        where
          below : (j : ℕ) → last_below n b ≤ j → j < suc n → Dec (j < n) → b j ≡ false
          below j l m (yes v) = before.none j l v
          below j l m (no v) = let q : j ≡ n = omega arith in ap b q ∙ e
