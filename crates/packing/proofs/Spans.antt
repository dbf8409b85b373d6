-- The spans of the variables that are packed so far: one variable more, behind the others, has its span laid over the zeros that it had, and
-- leaves the spans of the others as they were. A variable that is packed has positions, so the count in its span tells that it is.
use mathlib.Core.Path.{◌≡◌, refl, sym as inv, ap, ap₂, ◌∙◌}
use mathlib.Core.List.{List, [], ◌∷◌, ◌++◌, append_assoc}
use mathlib.Core.Bool.{Bool, true, false, cond}
use Prim.Native.Nat.{ℕ, zero, suc, ◌+◌, ◌-◌, ◌*◌, ◌<◌}
use native.Mathlib.Nat.{not-suc-le-zero}
use native.Mathlib.Decide.{ℕ_discrete}
use native.Mathlib.Omega.{arith}
use lib.Dec.{eqb}
use lib.ListN.{length, get_or, drop, length-append, length-replicate, get_or-append, replicate-append-replicate}
use lib.Seq.{take_at, drop_at, drop-append-add}
use borrow.Author.Tests.{eq-eqb, ne_eqb}
use Rattle.theory.specs.Table.{Table}
use Rattle.theory.specs.Faces.{Face}
use Rattle.meaning.specs.Limits.{variable_count, span_width}
use Rattle.meaning.specs.Packing.{through, order, count_of, sum, among, span_from, span_in, packed_spans}
use Rattle.meaning.specs.Calls.{zeros}
use Rattle.meaning.specs.Over.{over}
use Rattle.meaning.proofs.Loop.{start_last, start_stays}
use Rattle.meaning.proofs.Packing.{length-through, through-at, span_wide}

-- ---- one of lists that follow one another, laid over

over_part : (a b c d : List ℕ) (n : ℕ) → length a ≡ n → length b ≡ length d → over (a ++ (b ++ c)) n d ≡ a ++ (d ++ c)
unfolding over
over_part a b c d n e f =
    ap₂ (λ x y. x ++ d ++ y) (take_at a (b ++ c) n e)
    (ap (λ k. drop (k + length d) (a ++ (b ++ c))) (inv e) ∙ drop-append-add a (b ++ c) (length d) ∙ drop_at b c (length d) f)
    ∙ append_assoc a d c

through_same : {A : Type 0} (f g : ℕ → List A) (n : ℕ) → ((k : ℕ) → k < n → f k ≡ g k) → through n f ≡ through n g
through_same f g zero h = refl
through_same f g (suc n) h = ap₂ ◌++◌ (through_same f g n (λ k l. h k (omega arith))) (h n (omega arith))

module _ (f g : ℕ → List ℕ) (m v : ℕ) (wide : (k : ℕ) → length (f k) ≡ m) (wide' : (k : ℕ) → length (g k) ≡ m) (other : (k : ℕ) → (k ≡ v → ⊥) → f k ≡ g k) where
  -- LAW: lists of equal width, of which all but the v-th stay
  pub over-through : (n : ℕ) (rest : List ℕ) → v < n → over (through n f ++ rest) (m * v) (g v) ≡ through n g ++ rest
  over-through zero rest l = absurd (not-suc-le-zero l)
  over-through (suc n) rest l = go (ℕ_discrete n v) (over-through n)
    where
      go : Dec (n ≡ v) → ((rest : List ℕ) → v < n → over (through n f ++ rest) (m * v) (g v) ≡ through n g ++ rest)
          → over (through n f ++ f n ++ rest) (m * v) (g v) ≡ through n g ++ g n ++ rest
      go (no d) on =
          ap (λ l. over l (m * v) (g v)) (append_assoc (through n f) (f n) rest)
          ∙ on (f n ++ rest) (omega arith)
          ∙ ap (λ l. through n g ++ (l ++ rest)) (other n d)
          ∙ inv (append_assoc (through n g) (g n) rest)
      go (yes d) on =
          ap₂ (λ l k. over l (m * v) (g k)) (append_assoc (through n f) (f n) rest) (inv d)
          ∙ over_part (through n f) (f n) rest (g n) (m * v) (length-through f m wide 0 n ∙ ap (λ k. m * k) d) (wide n ∙ inv (wide' n))
          ∙ ap (λ l. l ++ (g n ++ rest)) (through_same f g n (λ k b. other k (λ e. omega arith)))
          ∙ inv (append_assoc (through n g) (g n) rest)

-- ---- among variables, with one more at the end

among_last : (w v : ℕ) (vs : List ℕ) → among w (vs ++ (v ∷ [])) ≡ cond (among w vs) true (eqb w v)
among_last w v [] = go (eqb w v)
  where
    go : (b : Bool) → cond b true false ≡ b
    go true = refl
    go false = refl
among_last w v (x ∷ vs) = go (eqb w x) (among_last w v vs)
  where
    go : (b : Bool) → among w (vs ++ (v ∷ [])) ≡ cond (among w vs) true (eqb w v) → cond b true (among w (vs ++ (v ∷ []))) ≡ cond (cond b true (among w vs)) true (eqb w v)
    go true e = refl
    go false e = e

-- ---- the spans

module _ (T : Table) (cut : ℕ) (fs : List Face) where
  span_other : (vs : List ℕ) (v w : ℕ) → (w ≡ v → ⊥) → span_in T cut fs vs w ≡ span_in T cut fs (vs ++ (v ∷ [])) w
  span_other vs v w n = go (among w vs) refl
    where
      go : (b : Bool) → among w vs ≡ b → span_in T cut fs vs w ≡ span_in T cut fs (vs ++ (v ∷ [])) w
      go true e = rw (among_last w v vs, e, start_stays (count_of fs) w v vs e)
      go false e = rw (among_last w v vs, e, ne_eqb w v n)

  span_new : (vs : List ℕ) (v : ℕ) → among v vs ≡ false → span_in T cut fs (vs ++ (v ∷ [])) v ≡ span_from T cut fs (sum (count_of fs) vs) v
  span_new vs v e = rw (among_last v v vs, e, eq-eqb v v refl, start_last (count_of fs) v vs e)

  unfoldable pub spans_in : List ℕ → List ℕ
  spans_in vs = through variable_count (span_in T cut fs vs)

  -- LAW: none
  pub spans_none : (n : ℕ) → zeros (span_width * variable_count + n) ≡ spans_in [] ++ zeros n
  unfolding spans_in
  spans_none n = inv (replicate-append-replicate (span_width * variable_count) n 0)

  -- LAW: one variable more
  pub spans_next : (vs : List ℕ) (v first : ℕ) (rest : List ℕ) → among v vs ≡ false → v < variable_count → first ≡ sum (count_of fs) vs
      → over (spans_in vs ++ rest) (span_width * v) (span_from T cut fs first v) ≡ spans_in (vs ++ (v ∷ [])) ++ rest
  unfolding spans_in
  spans_next vs v first rest e l f =
      ap (over (through variable_count (span_in T cut fs vs) ++ rest) (span_width * v)) (ap (λ n. span_from T cut fs n v) f ∙ inv (span_new vs v e))
      ∙ over-through (span_in T cut fs vs) (span_in T cut fs (vs ++ (v ∷ []))) span_width v (span_wide T cut fs vs) (span_wide T cut fs (vs ++ (v ∷ []))) (λ w. span_other vs v w) variable_count rest l

  order_spans : spans_in (order fs) ≡ packed_spans T cut fs
  unfolding spans_in packed_spans
  order_spans = refl

  -- LAW: all
  pub spans_all : (n : ℕ) {spans : List ℕ} → spans ≡ spans_in (order fs) ++ zeros n → spans ≡ packed_spans T cut fs ++ zeros (length spans - length (packed_spans T cut fs))
  spans_all n {spans} e =
      let f : spans ≡ packed_spans T cut fs ++ zeros n = e ∙ ap (λ l. l ++ zeros n) order_spans in
      let m : n ≡ length spans - length (packed_spans T cut fs) = omega (arith, ap length f, length-append (packed_spans T cut fs) (zeros n), length-replicate {A = ℕ} n 0) in
      f ∙ ap (λ n. packed_spans T cut fs ++ zeros n) m

  -- the count in a variable's span
  span_count : (vs : List ℕ) (v : ℕ) (rest : List ℕ) → v < variable_count → get_or (spans_in vs ++ rest) (span_width * v + 1) 0 ≡ get_or (span_in T cut fs vs v) 1 0
  unfolding spans_in
  span_count vs v rest l =
      get_or-append (through variable_count (span_in T cut fs vs)) rest 0 (span_width * v + 1) (omega (arith, length-through (span_in T cut fs vs) span_width (span_wide T cut fs vs) 0 variable_count))
      ∙ through-at (span_in T cut fs vs) span_width (span_wide T cut fs vs) 0 variable_count v 1 l (omega arith)

  -- LAW: it tells whether the variable is packed
  pub span_none : (vs : List ℕ) (v : ℕ) (rest : List ℕ) → v < variable_count → 0 < count_of fs v → get_or (spans_in vs ++ rest) (span_width * v + 1) 0 ≡ 0
      → among v vs ≡ false
  span_none vs v rest l some e = go (among v vs) refl
    where
      go : (b : Bool) → among v vs ≡ b → among v vs ≡ false
      go true q = absurd (omega (arith, rw q at (inv (span_count vs v rest l) ∙ e)))
      go false q = q

  pub span_some : (vs : List ℕ) (v : ℕ) (rest : List ℕ) → v < variable_count → (get_or (spans_in vs ++ rest) (span_width * v + 1) 0 ≡ 0 → ⊥) → among v vs ≡ true
  span_some vs v rest l e = go (among v vs) refl
    where
      go : (b : Bool) → among v vs ≡ b → among v vs ≡ true
      go true q = q
      go false q = absurd (e (span_count vs v rest l ∙ rw q))
