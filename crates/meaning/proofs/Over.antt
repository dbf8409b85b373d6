-- Laying numbers over a buffer step by step is laying them over it at once: what one step leaves behind its numbers is what stood there before.
use mathlib.Core.Path.{◌≡◌, refl, sym, ap, ap₂, ◌∙◌}
use mathlib.Core.List.{List, [], ◌∷◌, ◌++◌, append_assoc}
use Prim.Native.Nat.{ℕ, ◌+◌, ◌≤◌, ◌<◌}
use native.Mathlib.Nat.{zero-add}
use native.Mathlib.Numerals.{add-one}
use native.Mathlib.Omega.{arith}
use lib.ListN.{length, get_or, set, take, drop, length-append}
use lib.Seq.{length-take-le, take-suc, drop-append-add, drop-drop, take_at, sets-eq, paste-zero, length-paste, take-length}
use Rattle.meaning.specs.Over.{over}

pub over_none : (out : List ℕ) (at : ℕ) → out ≡ over out at []
unfolding over
over_none out at = paste-zero out at []

module _ (out : List ℕ) (at : ℕ) (xs : List ℕ) where
  pub length_over : at + length xs ≤ length out → length (over out at xs) ≡ length out
  unfolding over
  length_over l = ap (λ s. length (take at out ++ s ++ drop (at + length xs) out)) (sym (take-length xs)) ∙ length-paste out at xs (length xs) l (omega arith)

  -- LAW: what is laid behind other numbers is laid with them
  pub over_then : (n : ℕ) (ys : List ℕ) → length xs ≡ n → at + n ≤ length out → over (over out at xs) (at + n) ys ≡ over out at (xs ++ ys)
  unfolding over
  over_then n ys e l =
      let p = take at out ++ xs in
      let q = drop (at + length xs) out in
      let m : length p ≡ at + n = omega (arith, length-append (take at out) xs, length-take-le at out (omega arith)) in
      let k : at + length xs + length ys ≡ at + length (xs ++ ys) = omega (arith, length-append xs ys) in
      ap₂ (λ a b. a ++ ys ++ b) (take_at p q (at + n) m)
      (ap (λ j. drop (j + length ys) (p ++ q)) (sym m) ∙ drop-append-add p q (length ys) ∙ drop-drop (length ys) (at + length xs) out)
      ∙ ap₂ (λ a b. a ++ drop b out) (append_assoc (take at out) xs ys) k

-- the same of lists that are known to be what was left
pub over_next : (out : List ℕ) (at : ℕ) (xs : List ℕ) (n : ℕ) (ys : List ℕ) {mid end : List ℕ}
    → mid ≡ over out at xs → end ≡ over mid (at + n) ys → length xs ≡ n → at + n ≤ length out → end ≡ over out at (xs ++ ys)
over_next out at xs n ys e f k l = f ∙ ap (λ m. over m (at + n) ys) e ∙ over_then out at xs n ys k l

-- one store, two, and four
pub over_one : (out : List ℕ) (at a : ℕ) → at < length out → set out at a ≡ over out at (a ∷ [])
unfolding over
over_one out at a l = sets-eq (a ∷ []) out at (omega arith)

pub over_two : (out : List ℕ) (at a b : ℕ) → at + 2 ≤ length out → set (set out at a) (at + 1) b ≡ over out at (a ∷ b ∷ [])
unfolding over
over_two out at a b l = rw add-one (sets-eq (a ∷ b ∷ []) out at (omega arith))

pub over_four : (out : List ℕ) (at a b c d : ℕ) → at + 4 ≤ length out
    → set (set (set (set out at a) (at + 1) b) (at + 2) c) (at + 3) d ≡ over out at (a ∷ b ∷ c ∷ d ∷ [])
over_four out at a b c d l =
    let front = over out at (a ∷ b ∷ []) in
    let i : at + 3 ≡ at + 2 + 1 = omega arith in
    ap₂ (λ xs k. set (set xs (at + 2) c) k d) (over_two out at a b (omega arith)) i
    ∙ over_two front (at + 2) c d (omega (arith, length_over out at (a ∷ b ∷ []) (omega arith)))
    ∙ over_then out at (a ∷ b ∷ []) 2 (c ∷ d ∷ []) refl (omega arith)

-- laid from the front on
pub over_front : (out xs : List ℕ) → over out 0 xs ≡ xs ++ drop (length xs) out
unfolding over
over_front out xs = ap (λ n. xs ++ drop n out) (zero-add (length xs))

-- ---- a list laid over a buffer element by element

module _ (out : List ℕ) (at : ℕ) (s : List ℕ) (i : ℕ) (inside : i < length s) where
  pub one_more : take i s ++ (get_or s i 0 ∷ []) ≡ take (i + 1) s
  one_more = sym (take-suc s i 0 inside) ∙ ap (λ k. take k s) (sym (add-one i))

  -- LAW: by a store
  pub store_more : at + i < length out → set (over out at (take i s)) (at + i) (get_or s i 0) ≡ over out at (take (i + 1) s)
  store_more l =
      let n : length (take i s) ≡ i = length-take-le i s (omega arith) in
      over_one (over out at (take i s)) (at + i) (get_or s i 0) (omega (arith, length_over out at (take i s) (omega arith)))
      ∙ over_then out at (take i s) i (get_or s i 0 ∷ []) n (omega arith)
      ∙ ap (over out at) one_more
