-- A line's fields, joined by spaces: one field more is put behind a space, unless it is the first. A number in decimal has a digit, so that
-- a line is empty only before its first number.
use mathlib.Core.Path.{◌≡◌, refl, sym, ap, subst, ◌∙◌}
use mathlib.Core.List.{List, [], ◌∷◌, ◌++◌, map, map-append, append-nil, append_assoc}
use mathlib.Core.Bool.{true, false, cond}
use Prim.Native.Nat.{ℕ, zero, suc, ◌+◌, ◌-◌, ◌*◌, ◌/◌, ◌%◌, ◌≤◌, ◌<◌}
use native.Mathlib.Numerals.{add-one}
use native.Mathlib.Decide.{dec_lt}
use native.Mathlib.Omega.{arith}
use lib.Dec.{eqb}
use lib.ListN.{length, get_or, length-append}
use borrow.Author.Tests.{eq-eqb, ne_eqb, lt-ltb, le-ltb}
use Rattle.theory.specs.Least.{collect}
use Rattle.meaning.specs.Limits.{word_bits, set_words_lem, set_room}
use Rattle.meaning.specs.Buffers.{bit, member, holds}
use Rattle.meaning.specs.Program.{digits, decimal, line}
use Rattle.sets.specs.Words.{NoneBetween}
use Rattle.text.specs.declared.Text.{Text}
use Rattle.text.specs.Texts.{PutBy, numeral}
use Rattle.lines.specs.Lines.{symbols_line}
use Rattle.text.proofs.Puts.{put_then, digits_front}

abbrev joined : List (List ℕ) → List ℕ
joined [] = []
joined (f ∷ []) = f
joined (f ∷ g ∷ fs) = f ++ (32 ∷ joined (g ∷ fs))

line-joined : (fs : List (List ℕ)) → line fs ≡ joined fs ++ (10 ∷ [])
line-joined [] = refl
line-joined (f ∷ []) = refl
line-joined (f ∷ g ∷ fs) = ap (λ t. f ++ (32 ∷ t)) (line-joined (g ∷ fs)) ∙ sym (append_assoc f (32 ∷ joined (g ∷ fs)) (10 ∷ []))

-- LAW: no line is empty
pub line-some : (fs : List (List ℕ)) → 0 < length (line fs)
line-some fs = omega (arith, ap length (line-joined fs), length-append (joined fs) (10 ∷ []))

joined_last : (f : List ℕ) (fs : List (List ℕ)) (g : List ℕ) → joined ((f ∷ fs) ++ (g ∷ [])) ≡ joined (f ∷ fs) ++ (32 ∷ g)
joined_last f [] g = refl
joined_last f (h ∷ fs) g = ap (λ t. f ++ (32 ∷ t)) (joined_last h fs g) ∙ sym (append_assoc f (32 ∷ joined (h ∷ fs)) (32 ∷ g))

joined_front : (f : List ℕ) (fs : List (List ℕ)) → length f ≤ length (joined (f ∷ fs))
joined_front f [] = omega arith
joined_front f (g ∷ fs) = omega (arith, length-append f (32 ∷ joined (g ∷ fs)))

-- a number in decimal has a digit
some-digit : (n : ℕ) → 0 < length (decimal n)
some-digit n = go (dec_lt n 10)
  where
    go : Dec (n < 10) → 0 < length (decimal n)
    go (yes l) = rw (lt-ltb n 10 l) (omega arith)
    go (no l) =
        let t = (48 + n % 10) ∷ [] in
        rw (le-ltb n 10 (omega arith), digits_front 4 (n / 10) t) (omega (arith, length-append (digits 4 (n / 10) []) t))

-- the line has no field yet where it starts
first_here : (start at n : ℕ) → at ≡ start + n → eqb at start ≡ eqb n 0
first_here start at n e = go (dec_lt 0 n)
  where
    go : Dec (0 < n) → eqb at start ≡ eqb n 0
    go (yes l) = ne_eqb at start (λ z. omega arith) ∙ sym (ne_eqb n 0 (λ z. omega arith))
    go (no l) = eq-eqb at start (omega arith) ∙ sym (eq-eqb n 0 (omega arith))

-- ---- the symbols at a position

-- those below k, joined
unfoldable pub symbols_below : List ℕ → ℕ → ℕ → List ℕ
symbols_below sets p k = joined (map decimal (collect k (holds sets p)))

one_more : (xs : List ℕ) (k : ℕ) → joined (map decimal (xs ++ (k ∷ []))) ≡ joined (map decimal xs) ++ cond (eqb (length (joined (map decimal xs))) 0) (numeral k) (32 ∷ numeral k)
unfolding numeral
one_more [] k = refl
one_more (x ∷ xs) k =
    let text = joined (decimal x ∷ map decimal xs) in
    let some : eqb (length text) 0 ≡ false = ne_eqb (length text) 0 (λ e. omega (arith, joined_front (decimal x) (map decimal xs), some-digit x)) in
    ap joined (map-append decimal (x ∷ xs) (k ∷ [])) ∙ joined_last (decimal x) (map decimal xs) (decimal k) ∙ ap (λ b. text ++ cond b (decimal k) (32 ∷ decimal k)) (sym some)

module _ (sets : List ℕ) (p : ℕ) where
  pub symbols_none : symbols_below sets p 0 ≡ []
  unfolding symbols_below
  symbols_none = refl

  symbols_more : (k : ℕ) → holds sets p k ≡ true
      → symbols_below sets p (k + 1) ≡ symbols_below sets p k ++ cond (eqb (length (symbols_below sets p k)) 0) (numeral k) (32 ∷ numeral k)
  unfolding symbols_below
  symbols_more k e = rw (add-one k, e) (one_more (collect k (holds sets p)) k)

  -- LAW: a symbol that is in the set is one field more
  pub put_symbol : {a b d : Text} (start k : ℕ) → a.used ≡ start → holds sets p k ≡ true → PutBy a (symbols_below sets p k) b
      → PutBy b (cond (eqb b.used start) (numeral k) (32 ∷ numeral k)) d → PutBy a (symbols_below sets p (k + 1)) d
  put_symbol {a} {b} {d} start k s h q r =
      let text = symbols_below sets p k in
      let e : eqb b.used start ≡ eqb (length text) 0 = first_here start b.used (length text) (omega (arith, q.ends)) in
      rw (symbols_more k h) (subst (λ z. PutBy a (text ++ cond z (numeral k) (32 ∷ numeral k)) d) e (put_then q r))

  -- any other is passed over
  symbols_same : (k : ℕ) → holds sets p k ≡ false → symbols_below sets p (k + 1) ≡ symbols_below sets p k
  unfolding symbols_below
  symbols_same k e = rw (add-one k, e) (ap (λ xs. joined (map decimal xs)) (append-nil (collect k (holds sets p))))

  symbols_skip : (from n : ℕ) → ((j : ℕ) → from ≤ j → j < from + n → holds sets p j ≡ false) → symbols_below sets p (from + n) ≡ symbols_below sets p from
  symbols_skip from zero none = ap (symbols_below sets p) (omega arith)
  symbols_skip from (suc n) none =
      let next : from + suc n ≡ from + n + 1 = omega arith in
      ap (symbols_below sets p) next ∙ symbols_same (from + n) (none (from + n) (omega arith) (omega arith)) ∙ symbols_skip from n (λ j l m. none j l (omega arith))

  module _ (words : List ℕ) (read : (w : ℕ) → w < set_words_lem → get_or words w 0 ≡ get_or sets (set_words_lem * p + w) 0) where
    -- LAW: words that are read from the position have the members that it has
    pub held : (k : ℕ) → k < set_room → holds sets p k ≡ member words k
    unfolding holds member
    held k l = ap (bit (k % word_bits)) (sym (read (k / word_bits) (omega arith)))

    -- LAW: all symbols up to the next member are passed over
    pub symbols_next : (from to : ℕ) → from ≤ to → to ≤ set_room → NoneBetween words from to → symbols_below sets p to ≡ symbols_below sets p from
    symbols_next from to l m none =
        let e : to ≡ from + (to - from) = omega arith in
        ap (symbols_below sets p) e ∙ symbols_skip from (to - from) (λ j a b. held j (omega arith) ∙ none j a (omega arith))

  -- LAW: all of them make the line
  pub symbols_all : symbols_line sets p ≡ symbols_below sets p set_room ++ (10 ∷ [])
  unfolding symbols_line symbols_below
  symbols_all = line-joined (map decimal (collect set_room (holds sets p)))
