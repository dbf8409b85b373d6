-- A number is read digit by digit: so far the digits that were passed are those of the value. Digits that go on behind a 0, or whose value is too
-- high, or that no other byte ends, are no number's.
use mathlib.Core.Path.{◌≡◌, refl, sym, ap, ap₂, ◌∙◌}
use mathlib.Core.List.{List, [], ◌∷◌, ◌++◌, append_assoc, tail-eq_of_cons-eq}
use mathlib.Core.Bool.{Bool, true, false, cond, false≢true}
use Prim.Native.Nat.{ℕ, zero, suc, ◌+◌, ◌*◌, ◌-◌, ◌/◌, ◌%◌, ◌^◌, ◌≤◌, ◌<◌}
use native.Mathlib.Nat.{pow-suc, add-zero}
use native.Mathlib.Decide.{dec_lt}
use native.Mathlib.Omega.{arith}
use lib.Dec.{ltb, leb}
use lib.ListN.{length, get_or, drop, length-append, length-drop, drop_of_length-le}
use lib.Seq.{get_or-drop}
use borrow.Author.Tests.{lt-ltb, leb-true, ltb-true, ltb-false}
use Rattle.std.proofs.Common.{Bor}
use Rattle.std.specs.Bool.{then_some}
use Rattle.std.specs.Option.{MatchOption}
use Rattle.theory.specs.Least.{All}
use Rattle.theory.proofs.Lemmas.{all_append, and_left, and_right}
use Rattle.theory.proofs.Reading.{drop_head}
use Rattle.meaning.specs.Program.{digits, decimal}
use Rattle.text.proofs.Puts.{digits_one, digits_more}
use Rattle.marc.specs.Frame.{is_digit_lem}
use Rattle.marc.specs.ListFile.{Numbered}
use Rattle.marc.proofs.Parting.{GoesOn, goes_on, parts_once}
use Rattle.marc.proofs.Numerals.{Digit, value_behind, decimal-some, decimal_all, decimal_value, decimal-first}
use Rattle.list_file.specs.Numerals.{Valued, NoNumber}
use Rattle.list_file.proofs.Ends.{next_byte}

-- ---- one digit more

-- a number that has fewer digits than are allowed
digits_spare : (k n : ℕ) (text : List ℕ) → n < 10 ^ suc k → digits (suc (suc k)) n text ≡ digits (suc k) n text
digits_spare zero n text l = rw (lt-ltb n 10 (omega arith))
digits_spare (suc k) n text l = ap (cond (ltb n 10) ((48 + n) ∷ text)) (digits_spare k (n / 10) ((48 + n % 10) ∷ text) (omega (arith, pow-suc 10 (suc k))))

decimal_more : (v d : ℕ) → 0 < v → d < 10 → Numbered (v * 10 + d) → decimal (v * 10 + d) ≡ decimal v ++ ((48 + d) ∷ [])
decimal_more v d some low fits =
    let n = v * 10 + d in
    let front : n / 10 ≡ v = omega arith in
    let last : n % 10 ≡ d = omega arith in
    digits_more 5 n (omega arith) (omega arith)
    ∙ ap₂ (λ a b. digits 4 a [] ++ ((48 + b) ∷ [])) front last
    ∙ ap (λ t. t ++ ((48 + d) ∷ [])) (sym (digits_spare 3 v [] (omega arith)))

value_append : (so : ℕ) (xs ys : List ℕ) → value_behind so (xs ++ ys) ≡ value_behind (value_behind so xs) ys
value_append so [] ys = refl
value_append so (x ∷ xs) ys = value_append (so * 10 + (x - 48)) xs ys

value_grows : (so : ℕ) (xs : List ℕ) → so ≤ value_behind so xs
value_grows so [] = omega arith
value_grows so (x ∷ xs) = omega (arith, value_grows (so * 10 + (x - 48)) xs)

-- a digit's bounds
digit_bounds : (b : ℕ) → Digit b → (48 ≤ b) × (b ≤ 57)
digit_bounds b d = (leb-true 48 b (and_left (leb 48 b) (leb b 57) d), leb-true b 57 (and_right (leb 48 b) (leb b 57) d))

-- ---- the digits that were passed

pub record Passing (bytes : List ℕ) (value i : ℕ) : Type 0 where
  pub within : i ≤ length bytes
  pub fits : Numbered value
  pub none_yet : i ≡ 0 → value ≡ 0
  pub written : 0 < i → bytes ≡ decimal value ++ drop i bytes

-- the bytes that were passed, whether there are any or none
record Passed (bytes : List ℕ) (value i : ℕ) : Type 0 where
  pub part : List ℕ
  pub all : All Digit part
  pub worth : value_behind 0 part ≡ value
  pub begins : bytes ≡ part ++ drop i bytes

pub passing_none : (bytes : List ℕ) → Passing bytes 0 0
passing_none bytes = record { within = omega arith; fits = omega arith; none_yet = λ e. refl; written = λ l. absurd (omega arith) }

module _ (bytes : List ℕ) (value i : ℕ) (p : Passing bytes value i) where
  passed : Passed bytes value i
  passed = go (dec_lt 0 i)
    where
      go : Dec (0 < i) → Passed bytes value i
      go (yes l) = record { part = decimal value; all = decimal_all value p.fits; worth = decimal_value value p.fits; begins = p.written l }
      go (no l) =
          let e : 0 ≡ i = omega arith in
          record { part = []; all = tt; worth = sym (p.none_yet (sym e)); begins = ap (λ j. drop j bytes) e }

  -- a number that stands there begins with the digits that were passed, and with those behind them
  passed_on : (more : List ℕ) → All Digit more → (rest : List ℕ) → drop i bytes ≡ more ++ rest → (n c : ℕ) (left : List ℕ) → is_digit_lem c ≡ false → bytes ≡ decimal n ++ (c ∷ left)
      → GoesOn (passed.part ++ more) (decimal n) rest c left
  passed_on more all rest e n c left other f =
      let g : (passed.part ++ more) ++ rest ≡ decimal n ++ (c ∷ left) = append_assoc passed.part more rest ∙ ap (λ t. passed.part ++ t) (sym e) ∙ sym passed.begins ∙ f in
      goes_on Digit (passed.part ++ more) (decimal n) rest c left (all_append Digit passed.part more passed.all all) (λ t. false≢true (sym other ∙ t)) g

  -- LAW: where the bytes end, no byte ends the digits
  pub never_ended : length bytes ≤ i → NoNumber bytes
  never_ended l n c left fits other e =
      let on = passed_on [] tt [] (drop_of_length-le bytes l) n c left other e in
      omega (arith, ap length on.behind, length-append on.more (c ∷ left))

  module _ (inside : i < length bytes) where
    -- LAW: a byte that is no digit ends them
    pub value_ended : is_digit_lem (get_or bytes i 0) ≡ false → (i ≡ 0 → ⊥) → Valued bytes value (drop i bytes)
    value_ended other some = record { fits = p.fits; some = omega (arith, length-drop i bytes); ended = ap is_digit_lem (get_or-drop i bytes 0 0 ∙ ap (λ j. get_or bytes j 0) (add-zero i)) ∙ other; written = p.written (omega arith) }

    -- LAW: a number has a digit
    pub no_digit : is_digit_lem (get_or bytes i 0) ≡ false → i ≡ 0 → NoNumber bytes
    no_digit other none n c left fits other' e =
        let f : get_or bytes i 0 ∷ drop (i + 1) bytes ≡ decimal n ++ (c ∷ left) = sym (next_byte bytes i inside) ∙ ap (λ j. drop j bytes) none ∙ e in
        let q = parts_once Digit [] (decimal n) (get_or bytes i 0) c (drop (i + 1) bytes) left tt (decimal_all n fits) (λ t. false≢true (sym other ∙ t)) (λ t. false≢true (sym other' ∙ t)) f in
        omega (arith, decimal-some n, ap length q.0)

    -- LAW: so where no digit goes on, the number is told if there is one
    pub number_ended : is_digit_lem (get_or bytes i 0) ≡ false → (rest : Bor (List ℕ)) → rest.now ≡ drop i bytes
        → MatchOption {T = ℕ × Bor (List ℕ)} (then_some (ltb 0 i) (value, rest)) (NoNumber bytes) (λ read. Valued bytes read.0 read.1.now)
    number_ended other rest e = go (ltb 0 i) refl
      where
        go : (some : Bool) → ltb 0 i ≡ some → MatchOption {T = ℕ × Bor (List ℕ)} (then_some some (value, rest)) (NoNumber bytes) (λ read. Valued bytes read.0 read.1.now)
        go true q = let l = ltb-true 0 i q in rw e (value_ended other (λ z. omega arith))
        go false q = let l = ltb-false 0 i q in no_digit other (omega arith)

    module _ (digit : Digit (get_or bytes i 0)) where
      -- LAW: behind the digit 0 no other may stand
      pub leading_zero : value ≡ 0 → 0 < i → NoNumber bytes
      leading_zero zeros some n c left fits other e =
          let f : 48 ∷ drop i bytes ≡ decimal n ++ (c ∷ left) = ap (λ v. decimal v ++ drop i bytes) (sym zeros) ∙ sym (p.written some) ∙ e in
          let on = goes_on Digit (48 ∷ []) (decimal n) (drop i bytes) c left (refl, tt) (λ t. false≢true (sym other ∙ t)) f in
          let zero : n ≡ 0 = decimal-first n fits (ap (λ t. get_or t 0 0) on.is) in
          let none : on.more ≡ [] = tail-eq_of_cons-eq (sym on.is ∙ ap decimal zero) in
          let here : drop i bytes ≡ c ∷ left = on.behind ∙ ap (λ t. t ++ (c ∷ left)) none in
          false≢true (sym other ∙ ap is_digit_lem (sym (drop_head bytes i c left here).1) ∙ digit)

      module _ (d : ℕ) (worth : d ≡ get_or bytes i 0 - 48) where
        last : 48 + d ≡ get_or bytes i 0
        last = omega (arith, worth, digit_bounds (get_or bytes i 0) digit)

        low_digit : d < 10
        low_digit = omega (arith, worth, digit_bounds (get_or bytes i 0) digit)

        -- LAW: no number is so high
        pub too_high : 65535 < value * 10 + d → NoNumber bytes
        too_high high n c left fits other e =
            let part = passed.part ++ (get_or bytes i 0 ∷ []) in
            let on = passed_on (get_or bytes i 0 ∷ []) (digit, tt) (drop (i + 1) bytes) (next_byte bytes i inside) n c left other e in
            let so : value_behind 0 part ≡ value * 10 + d = value_append 0 passed.part (get_or bytes i 0 ∷ []) ∙ ap₂ (λ v b. v * 10 + b) passed.worth (sym worth) in
            let all : n ≡ value_behind (value_behind 0 part) on.more = sym (decimal_value n fits) ∙ ap (value_behind 0) on.is ∙ value_append 0 part on.more in
            omega (arith, fits, so, all, value_grows (value_behind 0 part) on.more)

        -- LAW: one more digit
        pub passing_on : (0 < i → value ≡ 0 → ⊥) → value * 10 + d ≤ 65535 → Passing bytes (value * 10 + d) (i + 1)
        passing_on unled low = record {
          within = omega arith;
          fits = omega arith;
          none_yet = λ e. absurd (omega arith);
          written = λ _. more (dec_lt 0 i);
        }
          where
            more : Dec (0 < i) → bytes ≡ decimal (value * 10 + d) ++ drop (i + 1) bytes
            more (yes l) =
                let step : decimal (value * 10 + d) ≡ decimal value ++ (get_or bytes i 0 ∷ []) =
                decimal_more value d (omega (arith, unled l)) low_digit (omega arith) ∙ ap (λ b. decimal value ++ (b ∷ [])) last in
                p.written l ∙ ap (λ t. decimal value ++ t) (next_byte bytes i inside) ∙ sym (append_assoc (decimal value) (get_or bytes i 0 ∷ []) (drop (i + 1) bytes)) ∙ ap (λ t. t ++ drop (i + 1) bytes) (sym step)
            more (no l) =
                let here : i ≡ 0 = omega arith in
                let none : value ≡ 0 = p.none_yet here in
                let one : decimal (value * 10 + d) ≡ get_or bytes i 0 ∷ [] = digits_one 5 (value * 10 + d) (omega arith) (omega (arith, low_digit)) ∙ ap (λ b. b ∷ []) (omega (arith, last)) in
                ap (λ j. drop j bytes) (sym here) ∙ next_byte bytes i inside ∙ ap (λ t. t ++ drop (i + 1) bytes) (sym one)
