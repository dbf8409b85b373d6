-- Where the first terms of a list end, told without their depth: a node is the first of one of them, and has the terms that are its arguments come in
-- that one's place. A walk that ends has passed one term by this count, so a loop that keeps the count ends where the walk does.
use mathlib.Core.Path.{◌≡◌, refl, sym, ap, ◌∙◌}
use mathlib.Core.List.{List, [], ◌∷◌}
use mathlib.Core.Bool.{Bool, true, false, ◌&&◌, cond}
use Prim.Native.Nat.{ℕ, zero, suc, ◌+◌, ◌-◌, ◌≤◌, ◌<◌}
use native.Mathlib.Numerals.{add-one}
use native.Mathlib.Omega.{arith}
use lib.Dec.{ltb}
use lib.ListN.{length, get_or, drop}
use lib.Seq.{drop-cons}
use borrow.Author.Tests.{ltb-true, lt-ltb, le-ltb}
use Rattle.theory.specs.Table.{Table}
use Rattle.theory.specs.Read.{Walk, ends, fault, onward, several, permitted, width, walk}
use Rattle.terms.specs.Ends.{EndsIn}

-- How many nodes the first n terms of a list have; a term that the list is too short for counts as one.
unfoldable pub span : Table → List ℕ → ℕ → ℕ
span T [] n = n
span T (x ∷ xs) zero = 0
span T (x ∷ xs) (suc n) = suc (span T xs (width T true x + n))

not_ends : (i j : ℕ) → fault i ≡ ends j → ⊥
not_ends i j e = let z : ◌≡◌ {A = ℕ} 0 1 = cc in omega arith

pub same_end : (i j : ℕ) → ends i ≡ ends j → i ≡ j
same_end i j e = cc

module _ (T : Table) where
  span_none : (xs : List ℕ) → span T xs 0 ≡ 0
  unfolding span
  span_none [] = refl
  span_none (x ∷ xs) = refl

  -- a term has a node at least
  span_many : (xs : List ℕ) (n : ℕ) → n ≤ span T xs n
  unfolding span
  span_many [] n = omega arith
  span_many (x ∷ xs) zero = omega arith
  span_many (x ∷ xs) (suc n) = omega (arith, span_many xs (width T true x + n))

  module _ (xs : List ℕ) where
    -- Where the first n terms from index i on end.
    abbrev last : ℕ → ℕ → ℕ
    last n i = i + span T (drop i xs) n

    last_none : (i : ℕ) → last 0 i ≡ i
    last_none i = omega (arith, span_none (drop i xs))

    -- a node puts the terms that follow it in the place of one
    last_next : (n i : ℕ) → i < length xs → last (width T true (get_or xs i 0) + n) (suc i) ≡ last (suc n) i
    unfolding span
    last_next n i l = rw (drop-cons xs i 0 l) (omega arith)

    -- ---- a walk passes one term

    -- n terms from i on end at j, whatever comes after them
    abbrev Passes : ℕ → ℕ → ℕ → Type 0
    Passes n i j = (m : ℕ) → last (n + m) i ≡ last m j

    several_passes : (f : ℕ → Walk) → ((i j : ℕ) → f i ≡ ends j → Passes 1 i j) → (n i j : ℕ) → several f n i ≡ ends j → Passes n i j
    unfolding several
    several_passes f one zero i j e m = let z : 0 + m ≡ m = omega arith in rw z (ap (last m) (same_end i j e))
    several_passes f one (suc n) i j e m = go (f i) refl e (several_passes f one n)
      where
        go : (w : Walk) → f i ≡ w → onward w (several f n) ≡ ends j → ((k j : ℕ) → several f n k ≡ ends j → Passes n k j) → last (suc n + m) i ≡ last m j
        go (ends k) q e rest = let z : suc n + m ≡ 1 + (n + m) = omega arith in rw z (one i k q (n + m) ∙ rest k j e m)
        go (fault k) q e rest = absurd (not_ends k j e)

    walk_passes : (d i j : ℕ) → walk T true xs d i ≡ ends j → Passes 1 i j
    unfolding walk
    walk_passes zero i j e m = absurd (not_ends i j e)
    walk_passes (suc d) i j e m = go (ltb i (length xs)) refl (permitted T true (get_or xs i 0)) e (walk_passes d)
      where
        n : ℕ
        n = width T true (get_or xs i 0)

        go : (a : Bool) → ltb i (length xs) ≡ a → (b : Bool) → cond (a && b) (several (walk T true xs d) n (suc i)) (fault i) ≡ ends j
            → ((i j : ℕ) → walk T true xs d i ≡ ends j → Passes 1 i j) → last (1 + m) i ≡ last m j
        go true l true e one =
            let z : 1 + m ≡ suc m = omega arith in
            rw z (sym (last_next m i (ltb-true i (length xs) l)) ∙ several_passes (walk T true xs d) one n (suc i) j e m)
        go true l false e one = absurd (not_ends i j e)
        go false l b e one = absurd (not_ends i j e)

    -- ---- a loop that passes a node in each turn

    -- With n terms to come from index i on, the walk from `start` ends where the last of them does, and each has a node in the list.
    pub record ToCome (start n i : ℕ) : Type 0 where
      pub same : walk T true xs 64 start ≡ ends (last n i)
      pub inside : last n i ≤ length xs
      pub room : i + n ≤ length xs

    module _ (start : ℕ) where
      ending : (n i end : ℕ) → walk T true xs 64 start ≡ ends end → end ≤ length xs → last n i ≡ end → ToCome start n i
      ending n i end walked inside e =
          record { same = walked ∙ ap ends (sym e); inside = omega arith; room = omega (arith, span_many (drop i xs) n) }

      -- LAW: before the first node one term is to come
      pub first_to_come : EndsIn T true xs start → ToCome start 1 start
      first_to_come e = ending 1 start e.end e.walked e.inside (walk_passes 64 start e.end e.walked 0 ∙ last_none e.end)

      module _ (n i : ℕ) (some : 0 < n) (c : ToCome start n i) where
        node_passed : (m : ℕ) → m ≡ width T true (get_or xs i 0) + (n - 1) → ToCome start m (i + 1)
        node_passed m e =
            let l : i < length xs = omega (arith, c.room) in
            let q : suc (n - 1) ≡ n = omega arith in
            ending m (i + 1) (last n i) c.same c.inside (rw (e, add-one i) (last_next (n - 1) i l ∙ ap (λ n. last n i) q))

        -- LAW: after a symbol its arguments are to come, and one term less than before
        pub symbol_passed : (a : ℕ) → a ≡ T.arity (get_or xs i 0) → get_or xs i 0 < T.size → ToCome start (n - 1 + a) (i + 1)
        symbol_passed a e l = node_passed (n - 1 + a) (rw (lt-ltb (get_or xs i 0) T.size l) (omega arith))

        -- LAW: .. and after any other node one term less
        pub other_passed : T.size ≤ get_or xs i 0 → ToCome start (n - 1) (i + 1)
        other_passed l = node_passed (n - 1) (rw (le-ltb (get_or xs i 0) T.size l) (omega arith))

      -- LAW: where no term is to come the walk ends
      pub none_to_come : (n i : ℕ) → n ≡ 0 → ToCome start n i → walk T true xs 64 start ≡ ends i
      none_to_come n i e c = c.same ∙ ap ends (ap (λ n. last n i) e ∙ last_none i)
