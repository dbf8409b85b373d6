-- Known strings: a string that is found has an entry with its very bytes; where no entry is bad, there is no other with them, and none has the
-- number of absent dates.
use mathlib.Core.Path.{◌≡◌, refl, sym as inv, ap, ap₂, ◌∙◌}
use mathlib.Core.List.{List, [], ◌∷◌}
use mathlib.Core.Bool.{Bool, true, false, cond, false≢true}
use mathlib.Core.Option.{some as just, some-ne-none}
use Prim.Native.Nat.{ℕ, zero, suc, ◌+◌, ◌<◌}
use native.Mathlib.Decide.{dec_lt}
use native.Mathlib.Numerals.{add-one}
use native.Mathlib.Omega.{arith}
use lib.Dec.{eqb}
use lib.ListN.{length, get_or, drop}
use lib.Seq.{drop-cons}
use borrow.Author.Tests.{eqb-true, eqb-false, eq-eqb}
use Rattle.theory.specs.Least.{some}
use Rattle.theory.proofs.Lemmas.{and_left, and_right, least-none, some_of, both_false}
use Rattle.meaning.proofs.First.{Silent}
use Rattle.marc.specs.Known.{Known, known, string_of, number_of, entry_of, same, number_in, listed_before, bad_entry_lem, row19}
use Rattle.marc.specs.Reading.{Listed, FineList}

-- LAW: what is left of a string begins with the byte there
pub left_is : (xs : List ℕ) (k : ℕ) → k < length xs → drop k xs ≡ get_or xs k 0 ∷ drop (k + 1) xs
left_is xs k l = drop-cons xs k 0 l ∙ ap (λ i. get_or xs k 0 ∷ drop i xs) (inv (add-one k))

-- LAW: the test says that two strings have the same bytes, and only then
pub same_true : (xs ys : List ℕ) → same xs ys ≡ true → xs ≡ ys
same_true [] [] e = refl
same_true [] (y ∷ ys) e = absurd (false≢true e)
same_true (x ∷ xs) [] e = absurd (false≢true e)
same_true (x ∷ xs) (y ∷ ys) e = ap₂ ◌∷◌ (eqb-true x y (and_left (eqb x y) (same xs ys) e)) (same_true xs ys (and_right (eqb x y) (same xs ys) e))

pub same_itself : (xs : List ℕ) → same xs xs ≡ true
same_itself [] = refl
same_itself (x ∷ xs) = rw (eq-eqb x x refl) (same_itself xs)

pub true_same : (xs ys : List ℕ) → xs ≡ ys → same xs ys ≡ true
true_same xs ys e = ap (same xs) (inv e) ∙ same_itself xs

pub not_same : (xs ys : List ℕ) → (xs ≡ ys → ⊥) → same xs ys ≡ false
not_same xs ys n = go (same xs ys) refl
  where
    go : (b : Bool) → same xs ys ≡ b → same xs ys ≡ false
    go true e = absurd (n (same_true xs ys e))
    go false e = e

-- LAW: no number below n passes
pub none_of : (n : ℕ) (b : ℕ → Bool) → ((i : ℕ) → i < n → b i ≡ false) → some n b ≡ false
none_of zero b h = refl
none_of (suc n) b h = rw (h n (omega arith)) (none_of n b (λ i l. h i (omega arith)))

-- LAW: a string that none before it is, is the same as none of them
pub none-same : (string : ℕ → List ℕ) (j : ℕ) → ((i : ℕ) → i < j → string i ≡ string j → ⊥) → some j (λ i. same (string i) (string j)) ≡ false
none-same string j h = none_of j (λ i. same (string i) (string j)) (λ i l. not_same (string i) (string j) (h i l))

-- the first entry with that string
record Found (ks : List Known) (string : List ℕ) (number : ℕ) : Type 0 where
  pub index : ℕ
  pub inside : index < length ks
  pub bytes : string_of (entry_of ks index) ≡ string
  pub number_is : number_of (entry_of ks index) ≡ number

found : (ks : List Known) (string : List ℕ) (n : ℕ) → number_in ks string ≡ just n → Found ks string n
unfolding number_in
found [] string n e = absurd (some-ne-none n (inv e))
found (known s m ∷ ks) string n e = go (same s string) refl e (found ks string n)
  where
    go : (b : Bool) → same s string ≡ b → cond b (just m) (number_in ks string) ≡ just n → (number_in ks string ≡ just n → Found ks string n) → Found (known s m ∷ ks) string n
    go true p e rest = record { index = 0; inside = omega arith; bytes = same_true s string p; number_is = cc }
    go false p e rest =
        let f = rest e in
        record { index = suc f.index; inside = omega (arith, f.inside); bytes = f.bytes; number_is = f.number_is }

-- LAW: the number of a string that one entry has
pub number-listed : (ks : List Known) (string : List ℕ) (n : ℕ) → Listed ks string n → number_in ks string ≡ just n
unfolding number_in
number-listed ks string n f = go ks f.index f.inside f.same_bytes f.number_is f.only
  where
    go : (ks : List Known) (i : ℕ) → i < length ks → string_of (entry_of ks i) ≡ string → number_of (entry_of ks i) ≡ n
        → ((k : ℕ) → k < length ks → string_of (entry_of ks k) ≡ string → k ≡ i) → number_in ks string ≡ just n
    go [] i l e m only = absurd (omega arith)
    go (known s k ∷ ks) zero l e m only = rw (true_same s string e) (ap just m)
    go (known s k ∷ ks) (suc i) l e m only =
        rw (not_same s string (λ q. omega (arith, only 0 (omega arith) q)))
        (go ks i (omega arith) e m (λ j l q. let h = only (suc j) (omega arith) q in omega (arith, h)))

-- nothing below j passes
some-none : (j : ℕ) (b : ℕ → Bool) → some j b ≡ false → (i : ℕ) → i < j → b i ≡ false
some-none j b e i l = go (b i) refl
  where
    go : (c : Bool) → b i ≡ c → b i ≡ false
    go true p = absurd (false≢true (inv e ∙ some_of j b i l p))
    go false p = p

module _ (ks : List Known) (absent : ℕ) (s : Silent (row19 ks absent)) where
  fine : (j : ℕ) → j < length ks → (listed_before ks j ≡ false) × (eqb (number_of (entry_of ks j)) absent ≡ false)
  unfolding row19
  fine j l = both_false (listed_before ks j) (eqb (number_of (entry_of ks j)) absent) (least-none (length ks) (bad_entry_lem ks absent) s j l)

  -- no entry has the string of an earlier one
  apart : (i j : ℕ) → i < j → j < length ks → string_of (entry_of ks i) ≡ string_of (entry_of ks j) → ⊥
  apart i j l m e =
      false≢true (inv (some-none j (λ i. same (string_of (entry_of ks i)) (string_of (entry_of ks j))) (fine j m).0 i l) ∙ true_same (string_of (entry_of ks i)) (string_of (entry_of ks j)) e)

  -- LAW: so the list is fine
  pub none_unfit : FineList ks absent
  none_unfit = record { none_twice = apart; none_absent = λ j l. eqb-false (number_of (entry_of ks j)) absent (fine j l).1 }

  -- LAW: one entry has it
  pub is_listed : (string : List ℕ) (n : ℕ) → number_in ks string ≡ just n → Listed ks string n
  is_listed string n e =
      let f = found ks string n e in
      record { index = f.index; inside = f.inside; same_bytes = f.bytes; number_is = f.number_is; only = λ k l q. one f k l q (dec_lt k f.index) (dec_lt f.index k) }
    where
      one : (f : Found ks string n) (k : ℕ) → k < length ks → string_of (entry_of ks k) ≡ string → Dec (k < f.index) → Dec (f.index < k) → k ≡ f.index
      one f k l q (yes a) b = absurd (apart k f.index a f.inside (q ∙ inv f.bytes))
      one f k l q (no a) (yes b) = absurd (apart f.index k b l (f.bytes ∙ inv q))
      one f k l q (no a) (no b) = omega arith

  -- LAW: and its number is not that of absent dates
  pub not_absent : (string : List ℕ) (n : ℕ) → Listed ks string n → n ≡ absent → ⊥
  not_absent string n f e = none_unfit.none_absent f.index f.inside (f.number_is ∙ e)
