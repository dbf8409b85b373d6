-- Where a text ends, and where the first subfield with a code opens.
use Rattle.std.proofs.Common.{◌≡◌, refl, sym, ap, ◌∙◌, List, [], ◌∷◌, Option, Bool, true, false, ◌&&◌, ℕ, zero, suc, ◌+◌, ◌<◌, length, get_or, take, drop, eqb, arith, add-one}
use borrow.Author.Tests.{eq-eqb, ne_eqb, eqb-true}
use Rattle.std.specs.Option.{MatchOption, unwrap_or}
use Rattle.std.specs.List.{HoldsAt, AllWithin}
use Rattle.std.proofs.lemmas.Iterator.{index_from_first}
use Rattle.std.proofs.Math.Bool.{and-false}
use Rattle.std.proofs.Math.Option.{none, some as just}
use Rattle.marc_record.specs.Openings.{Opens}
use Rattle.marc.specs.Subfields.{subfield_mark, text_to, text_of}

-- ---- where a text ends

text_takes : (xs : List ℕ) → take (length (text_to xs)) xs ≡ text_to xs
text_takes [] = refl
text_takes (b ∷ bs) = go (eqb b subfield_mark) refl (text_takes bs)
  where
    go : (e : Bool) → eqb b subfield_mark ≡ e → take (length (text_to bs)) bs ≡ text_to bs → take (length (text_to (b ∷ bs))) (b ∷ bs) ≡ text_to (b ∷ bs)
    go true e rest = rw e
    go false e rest = rw e (ap (λ t. b ∷ t) rest)

-- LAW: a text ends at the first mark, or with all bytes
pub text_ends : (xs : List ℕ) (first : Option ℕ) → MatchOption first (AllWithin (λ b. b ≡ subfield_mark → ⊥) xs 0 (length xs)) (λ i. (i < length xs) × HoldsAt (λ b. b ≡ subfield_mark) xs i × AllWithin (λ b. b ≡ subfield_mark → ⊥) xs 0 i)
    → take (unwrap_or first (length xs)) xs ≡ text_to xs
text_ends xs first h =
    let size : length (text_to xs) ≡ unwrap_or first (length xs) = index_from_first (λ bs. length (text_to bs)) (λ b. b ≡ subfield_mark) (λ b. b ≡ subfield_mark → ⊥) refl (λ b bs m. rw (eq-eqb b subfield_mark m)) (λ b bs n. rw (ne_eqb b subfield_mark n, add-one)) xs first h in
    ap (λ n. take n xs) (sym size) ∙ text_takes xs

-- ---- the first subfield with a code

module _ (code : ℕ) where
  later : (b : ℕ) (bs : List ℕ) (k : ℕ) → get_or (b ∷ bs) (k + 1) 0 ≡ get_or bs k 0
  later b bs k = rw (add-one k)

  opens_later : (b : ℕ) (bs : List ℕ) (k : ℕ) → Opens code bs k → Opens code (b ∷ bs) (k + 1)
  opens_later b bs k o = (later b bs k ∙ o.0, later b bs (k + 1) ∙ o.1)

  opens_sooner : (b : ℕ) (bs : List ℕ) (k : ℕ) → Opens code (b ∷ bs) (k + 1) → Opens code bs k
  opens_sooner b bs k o = (sym (later b bs k) ∙ o.0, sym (later b bs (k + 1)) ∙ o.1)

  passed : (b c : ℕ) (cs : List ℕ) → (Opens code (b ∷ c ∷ cs) 0 → ⊥) → (eqb b subfield_mark && eqb c code) ≡ false
  passed b c cs n = go (eqb b subfield_mark) (eqb c code) refl refl
    where
      go : (m d : Bool) → eqb b subfield_mark ≡ m → eqb c code ≡ d → (m && d) ≡ false
      go true true e f = absurd (n (eqb-true b subfield_mark e, eqb-true c code f))
      go true false e f = refl
      go false d e f = refl

  -- LAW: none opens
  pub text-none : (xs : List ℕ) → ((k : ℕ) → k + 1 < length xs → Opens code xs k → ⊥) → text_of code xs ≡ none
  unfolding text_of
  text-none [] h = refl
  text-none (b ∷ []) h = rw (and-false (eqb b subfield_mark))
  text-none (b ∷ c ∷ cs) h = rw (passed b c cs (h 0 (omega arith))) (text-none (c ∷ cs) (λ k l o. h (k + 1) (omega arith) (opens_later b (c ∷ cs) k o)))

  -- LAW: it is the first that opens
  pub text_opened : (xs : List ℕ) (at : ℕ) → at + 1 < length xs → Opens code xs at → ((k : ℕ) → k < at → Opens code xs k → ⊥) → text_of code xs ≡ just (text_to (drop (at + 2) xs))
  unfolding text_of
  text_opened [] at l o h = absurd (omega arith)
  text_opened (b ∷ []) at l o h = absurd (omega arith)
  text_opened (b ∷ c ∷ cs) zero l o h = rw (eq-eqb b subfield_mark o.0, eq-eqb c code o.1)
  text_opened (b ∷ c ∷ cs) (suc at) l o h =
      let next : suc at + 2 ≡ suc (at + 2) = omega (arith, add-one (at + 2), add-one at) in
      let rest = text_opened (c ∷ cs) at (omega (arith, add-one at)) (opens_sooner b (c ∷ cs) at (rw (add-one at) o)) (λ k m p. h (k + 1) (omega (arith, add-one at)) (opens_later b (c ∷ cs) k p)) in
      rw (passed b c cs (h 0 (omega (arith, add-one at))), next) rest
