-- A batch has one text, told by its bytes alone: at each question one thing comes next, so that two ways to answer it go together to its end; and
-- what is left is shorter each time, so that there is an end.
use mathlib.Core.Path.{◌≡◌, refl, sym, ap, ap₂, subst, ◌∙◌}
use mathlib.Core.List.{List, ◌++◌}
use Prim.Native.Nat.{ℕ, zero, suc, ◌<◌}
use native.Mathlib.Decide.{dec_lt}
use native.Mathlib.Omega.{arith}
use lib.ListN.{length, length-append}
use Rattle.input.specs.Coming.{Coming, question, too_long_lem, cut_off_lem, ended, whole, over_long, Comes, behind}
use Rattle.input.proofs.Once.{comes_once, comes_some}
use Rattle.replay.specs.Batches.{turn_text, GoesOn, Stops, Begins, none, further, WholeBatch}

goes_once : (next : Coming) (left left' : List ℕ) → GoesOn next left → GoesOn next left' → left ≡ left'
goes_once (question asked rest) left left' e e' = e ∙ sym e'
goes_once (too_long_lem rest) left left' e e' = e ∙ sym e'
goes_once cut_off_lem left left' never e' = elim never [ ]
goes_once ended left left' never e' = elim never [ ]

goes_or_stops : (next : Coming) (left : List ℕ) → GoesOn next left → Stops next → ⊥
goes_or_stops (question asked rest) left e never = never
goes_or_stops (too_long_lem rest) left e never = never
goes_or_stops cut_off_lem left never s = elim never [ ]
goes_or_stops ended left never s = elim never [ ]

same_next : (rest rest' : List ℕ) (next next' : Coming) → rest ≡ rest' → Comes rest next → Comes rest' next' → next ≡ next'
same_next rest rest' next next' e c c' = comes_once rest next next' c (subst (λ s. Comes s next') (sym e) c')

-- LAW: so many questions have one text, and the same bytes are left
pub begins_once : {k k' : ℕ} {bytes left left' text text' : List ℕ} → Begins k bytes left text → Begins k' bytes left' text' → k ≡ k' → (left ≡ left') × (text ≡ text')
begins_once none none e = (refl, refl)
begins_once none (further b c g) e = absurd (omega arith)
begins_once (further b c g) none e = absurd (omega arith)
begins_once (further {k} {rest = rest} {left = left} {next = next} b c g) (further {k = k'} {rest = rest'} {left = left'} {next = next'} b' c' g') e =
    let same = begins_once b b' (omega arith) in
    let n : next ≡ next' = same_next rest rest' next next' same.0 c c' in
    let m : k ≡ k' = omega arith in
    (goes_once next left left' g (subst (λ x. GoesOn x left') (sym n) g'), ap₂ ◌++◌ same.1 (ap₂ turn_text m n))

-- where a batch is over it does not go on
over_is_over : {m n : ℕ} {bytes left rest text text' : List ℕ} → Begins m bytes left text → Begins n bytes rest text' → n < m → (next : Coming) → Comes rest next → Stops next → ⊥
over_is_over none b' l next c s = absurd (omega arith)
over_is_over {n = n} {rest = rest} (further {k} {rest = rest'} {left = left} {next = next'} b c' g) b' l next c s = at (λ before. over_is_over b b' before next c s) (dec_lt n k)
  where
    at : (n < k → ⊥) → Dec (n < k) → ⊥
    at earlier (yes before) = earlier before
    at earlier (no not_before) =
        let e : next ≡ next' = same_next rest rest' next next' (begins_once b' b (omega arith)).0 c c' in
        goes_or_stops next left (subst (λ x. GoesOn x left) (sym e) g) s

-- LAW: a whole batch has one text
pub whole_once : {bytes text text' : List ℕ} → WholeBatch bytes text → WholeBatch bytes text' → text ≡ text'
whole_once {bytes} {text} {text'} w w' = by_count (dec_lt w.many w'.many) (dec_lt w'.many w.many)
  where
    by_count : Dec (w.many < w'.many) → Dec (w'.many < w.many) → text ≡ text'
    by_count (yes l) d = absurd (over_is_over w'.begun w.begun l w.next w.comes w.stops)
    by_count (no a) (yes l) = absurd (over_is_over w.begun w'.begun l w'.next w'.comes w'.stops)
    by_count (no a) (no b) =
        let m : w.many ≡ w'.many = omega arith in
        let same = begins_once w.begun w'.begun m in
        let n : w.next ≡ w'.next = same_next w.left w'.left w.next w'.next same.0 w.comes w'.comes in
        w.all ∙ ap₂ ◌++◌ same.1 (ap₂ turn_text m n) ∙ sym w'.all

-- ---- and every batch has one, since what is left is shorter

-- a part is shorter behind a length
shorter : (bytes four rest front left : List ℕ) → bytes ≡ four ++ rest → length four ≡ 4 → rest ≡ front ++ left → length left < length bytes
shorter bytes four rest front left e k f = omega (arith, ap length e, length-append four rest, ap length f, length-append front left)

less_left : (bytes : List ℕ) (next : Coming) (left : List ℕ) → Comes bytes next → GoesOn next left → length left < length bytes
less_left bytes (question asked then) left (behind four rest e k (whole f l s)) g = omega (arith, ap length g, shorter bytes four rest asked then e k f)
less_left bytes (too_long_lem then) left (behind four rest e k (over_long passed f l s)) g = omega (arith, ap length g, shorter bytes four rest passed then e k f)
less_left bytes cut_off_lem left c never = elim never [ ]
less_left bytes ended left c never = elim never [ ]

module _ (bytes : List ℕ) where
  -- what comes next is the last, or there is less to go on with
  one_more : {k : ℕ} {rest front : List ℕ} → Begins k bytes rest front
      → ((j : ℕ) (left text : List ℕ) → Begins j bytes left text → length left < length rest → (text : List ℕ) × WholeBatch bytes text)
      → (next : Coming) → Comes rest next → (text : List ℕ) × WholeBatch bytes text
  one_more {rest = rest} b on (question asked left) c = on _ left _ (further b c refl) (less_left rest (question asked left) left c refl)
  one_more {rest = rest} b on (too_long_lem left) c = on _ left _ (further b c refl) (less_left rest (too_long_lem left) left c refl)
  one_more {k} {rest} {front} b on cut_off_lem c = (front ++ turn_text k cut_off_lem, record { many = k; left = rest; front = front; begun = b; next = cut_off_lem; comes = c; stops = tt; all = refl })
  one_more {k} {rest} {front} b on ended c = (front ++ turn_text k ended, record { many = k; left = rest; front = front; begun = b; next = ended; comes = c; stops = tt; all = refl })

  to_the_end : (n : ℕ) {k : ℕ} {rest front : List ℕ} → length rest < n → Begins k bytes rest front → (text : List ℕ) × WholeBatch bytes text
  to_the_end zero l b = absurd (omega arith)
  to_the_end (suc n) {rest = rest} l b = one_more b (λ j left text b' less. to_the_end n (omega arith) b') (comes_some rest).0 (comes_some rest).1

-- LAW
pub whole_some : (bytes : List ℕ) → (text : List ℕ) × WholeBatch bytes text
whole_some bytes = to_the_end bytes (suc (length bytes)) (omega arith) none
