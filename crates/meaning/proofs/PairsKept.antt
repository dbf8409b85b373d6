-- A file that keeps every pair is a richer table, and no other is: two different symbols have a degree above 0 just where some pair lists it for them, so
-- that what the first file lists the second has to list too.
use mathlib.Core.Path.{◌≡◌, refl, sym as inv, ◌∙◌}
use mathlib.Core.Logic.{◌⊎◌, inl, inr}
use mathlib.Core.List.{List, [], ◌∷◌}
use mathlib.Core.Bool.{Bool, true, false, ◌&&◌, cond}
use Prim.Native.Nat.{ℕ, suc, ◌≤◌, ◌<◌}
use native.Mathlib.Nat.{not-suc-le-zero}
use native.Mathlib.Decide.{dec_lt, ℕ_discrete}
use native.Mathlib.Omega.{arith}
use lib.Dec.{eqb, ltb}
use lib.ListN.{length, get_or, get_or-eq_default}
use borrow.Author.Tests.{eqb-true, ne_eqb}
use Rattle.theory.specs.Table.{Richer}
use Rattle.theory.specs.Pairs.{Pair, pair, is_pair, listed}
use Rattle.theory.proofs.Lemmas.{and_left, and_right}
use Rattle.theory.proofs.Verdict.{or_cases}
use Rattle.meaning.specs.File.{symbol_count_lem, pair_count_lem, arities_in, pairs_in, table_in}
use Rattle.meaning.specs.Refusals.{SoundFile}
use Rattle.meaning.specs.Tables.{arity_byte, lower_at, higher_at, degree_at, KeptAs, PairsKept, MadeRicher}
use Rattle.meaning.proofs.Bytes.{pair_in_lem, arity_in}
use Rattle.meaning.proofs.Sound.{passed, length-pairs_in, length-arities_in, sound}
use Rattle.meaning.proofs.Degrees.{listed_sound, degree_listed, degree_outside}

-- ---- where a degree is listed

-- pair k lists its degree for the symbols a and b, in either order
record Lists (ps : List Pair) (a b : ℕ) : Type 0 where
  k : ℕ
  l : ℕ
  h : ℕ
  inside : k < length ps
  here : get_or ps k (pair 0 0 0) ≡ pair l h (listed ps a b)
  symbols : is_pair l h a b ≡ true

lists : (ps : List Pair) (a b : ℕ) → 0 < listed ps a b → Lists ps a b
lists [] a b m = absurd (not-suc-le-zero m)
lists (pair l h d ∷ ps) a b m = go (is_pair l h a b) refl m (lists ps a b)
  where
    go : (t : Bool) → is_pair l h a b ≡ t → 0 < cond t d (listed ps a b) → (0 < listed ps a b → Lists ps a b) → Lists (pair l h d ∷ ps) a b
    go true t m rest = record { k = 0; l = l; h = h; inside = omega arith; here = rw t; symbols = t }
    go false t m rest =
        let r = rest m in
        record { k = suc r.k; l = r.l; h = r.h; inside = omega (arith, r.inside); here = rw t r.here; symbols = r.symbols }

-- pair k of the file has these two symbols, and their degree
record ListedFor (table : List ℕ) (a b : ℕ) : Type 0 where
  k : ℕ
  inside : k < pair_count_lem table
  symbols : ((lower_at table k ≡ a) × (higher_at table k ≡ b)) ⊎ ((lower_at table k ≡ b) × (higher_at table k ≡ a))
  degree : degree_at table k ≡ (table_in table).deg a b

module _ (table : List ℕ) (a b : ℕ) (apart : a ≡ b → ⊥) (near : 0 < (table_in table).deg a b) where
  degree_is : (table_in table).deg a b ≡ listed (pairs_in table) a b
  unfolding table_in
  degree_is = go (ltb a (length (arities_in table)) && ltb b (length (arities_in table))) (rw (ne_eqb a b apart) at near)
    where
      go : (t : Bool) → 0 < cond t (listed (pairs_in table) a b) 0 → cond t (cond (eqb a b) 1000 (listed (pairs_in table) a b)) 0 ≡ listed (pairs_in table) a b
      go true m = rw (ne_eqb a b apart)
      go false m = absurd (not-suc-le-zero m)

  listed_for : ListedFor table a b
  listed_for =
      let r = lists (pairs_in table) a b (omega (arith, near, degree_is)) in
      let inside : r.k < pair_count_lem table = omega (arith, r.inside, length-pairs_in table) in
      let e : pair (lower_at table r.k) (higher_at table r.k) (degree_at table r.k) ≡ pair r.l r.h (listed (pairs_in table) a b) = inv (pair_in_lem table r.k inside) ∙ r.here in
      let l : lower_at table r.k ≡ r.l = cc in
      let h : higher_at table r.k ≡ r.h = cc in
      let d : degree_at table r.k ≡ listed (pairs_in table) a b = cc in
      record { k = r.k; inside = inside; symbols = either r.l r.h l h (or_cases _ _ r.symbols); degree = d ∙ inv degree_is }
    where
      either : (l h : ℕ) {x y : ℕ} → x ≡ l → y ≡ h → ((eqb a l && eqb b h) ≡ true) ⊎ ((eqb a h && eqb b l) ≡ true) → ((x ≡ a) × (y ≡ b)) ⊎ ((x ≡ b) × (y ≡ a))
      either l h e f (inl q) = inl (e ∙ inv (eqb-true a l (and_left (eqb a l) (eqb b h) q)), f ∙ inv (eqb-true b h (and_right (eqb a l) (eqb b h) q)))
      either l h e f (inr q) = inr (e ∙ inv (eqb-true b l (and_right (eqb a h) (eqb b l) q)), f ∙ inv (eqb-true a h (and_left (eqb a h) (eqb b l) q)))

-- ---- what is known of a pair of a table that is not refused

module _ (table : List ℕ) (s : SoundFile table) where
  pair_degree : (k : ℕ) → k < pair_count_lem table → (table_in table).deg (lower_at table k) (higher_at table k) ≡ degree_at table k
  pair_degree k m = degree_listed table s k _ _ _ m (pair_in_lem table k m)

  pair_sound : (k : ℕ) → k < pair_count_lem table → (lower_at table k < higher_at table k) × (0 < degree_at table k)
  pair_sound k m = let q = listed_sound table s k _ _ _ m (pair_in_lem table k m) in (q.0, q.3)

  size_is : (table_in table).size ≡ symbol_count_lem table
  unfolding table_in
  size_is = length-arities_in table (passed table s)

-- ---- two tables

module _ (table₁ table₂ : List ℕ) (s₁ : SoundFile table₁) (s₂ : SoundFile table₂) where
  abbrev deg₁ : ℕ → ℕ → ℕ
  deg₁ = (table_in table₁).deg

  abbrev deg₂ : ℕ → ℕ → ℕ
  deg₂ = (table_in table₂).deg

  -- a file that keeps every pair is richer
  module _ (kept : PairsKept table₁ table₂) where
    same_arity : (a : ℕ) → (table_in table₁).arity a ≡ (table_in table₂).arity a
    unfolding table_in
    same_arity a = go (dec_lt a (symbol_count_lem table₁))
      where
        go : Dec (a < symbol_count_lem table₁) → get_or (arities_in table₁) a 0 ≡ get_or (arities_in table₂) a 0
        go (yes l) = arity_in table₁ a l ∙ kept.same_arities a l ∙ inv (arity_in table₂ a (omega (arith, kept.as_many)))
        go (no m) =
            get_or-eq_default (arities_in table₁) 0 (omega (arith, length-arities_in table₁ (passed table₁ s₁)))
            ∙ inv (get_or-eq_default (arities_in table₂) 0 (omega (arith, length-arities_in table₂ (passed table₂ s₂), kept.as_many)))

    of_itself : (a : ℕ) → deg₁ a a ≤ deg₂ a a
    of_itself a = go (dec_lt a (symbol_count_lem table₁))
      where
        go : Dec (a < symbol_count_lem table₁) → deg₁ a a ≤ deg₂ a a
        go (yes l) = omega (arith, (sound table₁ s₁).lawful.top a a, (sound table₂ s₂).lawful.itself a (omega (arith, size_is table₂ s₂, kept.as_many)))
        go (no m) = omega (arith, degree_outside table₁ s₁ a a (inl (omega arith)))

    of_others : (a b : ℕ) → (a ≡ b → ⊥) → 0 < deg₁ a b → deg₁ a b ≤ deg₂ a b
    of_others a b n m =
        let p = listed_for table₁ a b n m in
        let q = kept.kept p.k p.inside in
        go q.0 (omega (arith, q.2.not_lower, p.degree)) (inv q.2.same_lower) (inv q.2.same_higher) (pair_degree table₂ s₂ q.0 q.1) p.symbols
      where
        go : (j : ℕ) {x y : ℕ} → deg₁ a b ≤ degree_at table₂ j → lower_at table₂ j ≡ x → higher_at table₂ j ≡ y → deg₂ (lower_at table₂ j) (higher_at table₂ j) ≡ degree_at table₂ j
            → ((x ≡ a) × (y ≡ b)) ⊎ ((x ≡ b) × (y ≡ a)) → deg₁ a b ≤ deg₂ a b
        go j l e f d (inl z) = omega (arith, l, rw (e ∙ z.0, f ∙ z.1) at d)
        go j l e f d (inr z) = omega (arith, l, rw (e ∙ z.0, f ∙ z.1) at d, (sound table₂ s₂).lawful.either a b)

    richer : Richer (table_in table₁) (table_in table₂)
    richer =
        record { same_size = size_is table₁ s₁ ∙ kept.as_many ∙ inv (size_is table₂ s₂); same_arity = same_arity; not_lower = λ a b. go a b (ℕ_discrete a b) (dec_lt 0 (deg₁ a b)) }
      where
        go : (a b : ℕ) → Dec (a ≡ b) → Dec (0 < deg₁ a b) → deg₁ a b ≤ deg₂ a b
        go a b (yes e) m = rw (← e) (of_itself a)
        go a b (no n) (yes m) = of_others a b n m
        go a b (no n) (no m) = omega arith

  -- .. and one that is richer keeps every pair
  module _ (more : Richer (table_in table₁) (table_in table₂)) where
    still_listed : (k : ℕ) → k < pair_count_lem table₁ → (j : ℕ) × (j < pair_count_lem table₂) × KeptAs table₁ table₂ k j
    still_listed k m =
        let l = lower_at table₁ k in
        let h = higher_at table₁ k in
        let o = pair_sound table₁ s₁ k m in
        let d = more.not_lower l h in
        let e = pair_degree table₁ s₁ k m in
        let q = listed_for table₂ l h (λ z. omega (arith, o.0)) (omega (arith, o.1)) in
        go q.k q.inside (omega (arith, q.degree)) (pair_sound table₂ s₂ q.k q.inside).0 o.0 q.symbols
      where
        go : (j : ℕ) → j < pair_count_lem table₂ → degree_at table₁ k ≤ degree_at table₂ j → lower_at table₂ j < higher_at table₂ j → lower_at table₁ k < higher_at table₁ k
            → ((lower_at table₂ j ≡ lower_at table₁ k) × (higher_at table₂ j ≡ higher_at table₁ k)) ⊎ ((lower_at table₂ j ≡ higher_at table₁ k) × (higher_at table₂ j ≡ lower_at table₁ k))
            → (i : ℕ) × (i < pair_count_lem table₂) × KeptAs table₁ table₂ k i
        go j n d r₂ r₁ (inl z) = (j, n, record { same_lower = inv z.0; same_higher = inv z.1; not_lower = d })
        go j n d r₂ r₁ (inr z) = absurd (omega (arith, z.0, z.1))

    as_many : symbol_count_lem table₁ ≡ symbol_count_lem table₂
    as_many = inv (size_is table₁ s₁) ∙ more.same_size ∙ size_is table₂ s₂

    same_byte : (a : ℕ) → a < symbol_count_lem table₁ → arity_byte table₁ a ≡ arity_byte table₂ a
    unfolding table_in
    same_byte a l = inv (arity_in table₁ a l) ∙ more.same_arity a ∙ arity_in table₂ a (omega (arith, as_many))

    pairs_kept : PairsKept table₁ table₂
    pairs_kept = record { as_many = as_many; same_arities = same_byte; kept = still_listed }

  -- THEOREM: how a richer table is made
  pub made_richer : MadeRicher table₁ table₂
  made_richer = (pairs_kept, richer)
