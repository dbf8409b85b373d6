-- A match is answered exactly if a matcher exists; its lowest and highest degree are reached by matchers and bound them all.
use mathlib.Core.Path.{◌≡◌, refl, sym as inv, ap, ◌∙◌, subst}
use mathlib.Core.Logic.{◌↔◌, ◌⊎◌, inl, inr}
use mathlib.Core.List.{List, [], ◌∷◌, ◌++◌, cons-ne-nil}
use mathlib.Core.Bool.{Bool, true, false, false≢true, cond}
use mathlib.Core.Option.{Option, none}
use Prim.Native.Nat.{ℕ, zero, suc, ◌+◌, ◌-◌, ◌≤◌, ◌<◌}
use native.Mathlib.Nat.{not-suc-le-zero, le_refl}
use native.Mathlib.Omega.{arith}
use lib.ListN.{length, get_or}
use Rattle.theory.specs.Tree.{Term, Pattern, enc, fill, stands}
use Rattle.theory.specs.Table.{Table, Lawful, Over, Overₚ, degree, Matcher}
use Rattle.theory.specs.Least.{All, least, every, some, lowest, highest}
use Rattle.theory.proofs.Lemmas.{least_top, all_of_least, least_of_all, lowest_le, le_lowest, le_highest, every-at, every_of, some_of, Chosen, the_most, the_fewest, choose}
use Rattle.theory.specs.Faces.{Face, meets, binds, faces, facing, worth}
use Rattle.theory.specs.Match.{size, at, shared, in_set, positions, formed, clash, lowest_at_lem, highest_at, Reaches}
use Rattle.theory.proofs.Flat.{degree_top}
use Rattle.theory.proofs.Relabel.{relabel, relabel_size, relabel_at, relabel_over}
use Rattle.theory.proofs.Draw.{over-at, in_set_lem, set_symbol, set-shared, reaches_shared, shared_reaches, reaches_size}
use Rattle.theory.proofs.Matchers.{Bound, standing, bound_facing, Clear, none_clear, clear_none, facing-over, worths, worths_clear, worths_reaches, reach_worths, worths_reach}

module _ (T : Table) (L : Lawful T) (c : ℕ) (pos : 0 < c) (cut : c ≤ 1000) where
  -- a term that reaches the cut with all of ts, and at each position k shares just val k with them
  pub record Form (ts : List Term) (val : ℕ → ℕ) : Type 0 where
    pub term : Term
    pub over : Over T term
    pub reaches : Reaches T c ts term
    pub values : (k : ℕ) → k < positions ts → shared T ts k (at T term k) ≡ val k

  -- a symbol of the set at position k that shares just n
  abbrev pub Symbol : List Term → ℕ → ℕ → Type 0
  Symbol ts k n = (s : ℕ) × ((in_set T c ts k s ≡ true) × (shared T ts k s ≡ n))

  -- from a symbol for each position, a form
  form : (t : Term) (ts : List Term) (val : ℕ → ℕ) → All (Over T) (t ∷ ts) → ((k : ℕ) → k < size t → Symbol (t ∷ ts) k (val k)) → Form (t ∷ ts) val
  form t ts val os sel = made (choose (size t) (λ k s. (in_set T c (t ∷ ts) k s ≡ true) × (shared T (t ∷ ts) k s ≡ val k)) sel)
    where
      made : (φ : ℕ → ℕ) × ((k : ℕ) → k < size t → (in_set T c (t ∷ ts) k (φ k) ≡ true) × (shared T (t ∷ ts) k (φ k) ≡ val k)) → Form (t ∷ ts) val
      made r = record { term = u; over = ou; reaches = shared_reaches T L u ou c cut (t ∷ ts) os sh; values = λ k l. subst (λ (s : ℕ). shared T (t ∷ ts) k s ≡ val k) (inv (relabel_at T.size t φ k l)) (r.1 k l).1 }
        where
          φ : ℕ → ℕ
          φ = r.0

          near : (k : ℕ) → k < size t → c ≤ shared T (t ∷ ts) k (φ k)
          near k l = set-shared T c (t ∷ ts) k (φ k) (r.1 k l).0

          u : Term
          u = relabel t φ

          ou : Over T u
          ou = relabel_over T t φ os.0
              (λ k l. (set_symbol T c (t ∷ ts) k (φ k) (r.1 k l).0, L.alike (φ k) (at T t k) (omega (arith, near k l))))

          sh : (k : ℕ) → k < size u → c ≤ shared T (t ∷ ts) k (at T u k)
          sh k l = let l' : k < size t = omega (arith, relabel_size t φ) in subst (λ (s : ℕ). c ≤ shared T (t ∷ ts) k s) (inv (relabel_at T.size t φ k l')) (near k l')

  -- in a set that is not empty, a symbol that shares the most, and one that shares the least
  pub symbol_most : (ts : List Term) (k : ℕ) → some T.size (in_set T c ts k) ≡ true → Symbol ts k (highest_at T c ts k)
  symbol_most ts k e = go (the_most (in_set T c ts k) (shared T ts k) T.size)
    where
      go : ((some T.size (in_set T c ts k) ≡ false) × (highest_at T c ts k ≡ 0)) ⊎ Chosen (in_set T c ts k) (shared T ts k) T.size (highest_at T c ts k) → Symbol ts k (highest_at T c ts k)
      go (inl q) = absurd (false≢true (inv q.0 ∙ e))
      go (inr s) = (s.pick, (s.passes, s.is))

  pub symbol_least : (ts : List Term) (k : ℕ) → some T.size (in_set T c ts k) ≡ true → Symbol ts k (lowest_at_lem T c ts k)
  symbol_least ts k e = go (the_fewest (in_set T c ts k) (shared T ts k) (λ s. least_top (λ t. T.deg s (at T t k)) ts) T.size)
    where
      go : ((some T.size (in_set T c ts k) ≡ false) × (lowest_at_lem T c ts k ≡ 1000)) ⊎ Chosen (in_set T c ts k) (shared T ts k) T.size (lowest_at_lem T c ts k) → Symbol ts k (lowest_at_lem T c ts k)
      go (inl q) = absurd (false≢true (inv q.0 ∙ e))
      go (inr s) = (s.pick, (s.passes, s.is))

  -- where no set is empty there is a form, with the most or the least at each position
  pub some_form : (val : List Term → ℕ → ℕ) → ((ts : List Term) (k : ℕ) → some T.size (in_set T c ts k) ≡ true → Symbol ts k (val ts k))
      → (any : Term) → Over T any → (ts : List Term) → All (Over T) ts → (ts ≡ []) ⊎ (formed T c ts ≡ true) → Form ts (val ts)
  some_form val sel any o [] os e = record { term = any; over = o; reaches = tt; values = λ k l. absurd (not-suc-le-zero l) }
  some_form val sel any o (t ∷ ts) os (inl e) = absurd (cons-ne-nil t ts e)
  some_form val sel any o (t ∷ ts) os (inr e) = form t ts (val (t ∷ ts)) os (λ k l. sel (t ∷ ts) k (every-at (size t) (λ k. some T.size (in_set T c (t ∷ ts) k)) e k l))

  -- LAW: a variable has a form exactly if some term reaches the cut with all that faces it
  pub formed_of : (u : Term) → Over T u → (ts : List Term) → All (Over T) ts → Reaches T c ts u → formed T c ts ≡ true
  formed_of u o [] os r = refl
  formed_of u o (t ∷ ts) os r =
      every_of (size t) (λ k. some T.size (in_set T c (t ∷ ts) k))
      (λ k l. let l' : k < size u = omega (arith, (reaches_size T L u o c pos (t ∷ ts) os r).0) in
      some_of T.size (in_set T c (t ∷ ts) k) (at T u k) (over-at T u o k l')
      (in_set_lem T c (t ∷ ts) k (at T u k) (over-at T u o k l') (reaches_shared T L u o c cut (t ∷ ts) os r k l')))

  -- ---- a term that reaches the cut, at another cut m: by position
  pub reach_more : (u : Term) → Over T u → (ts : List Term) → All (Over T) ts → Reaches T c ts u → (m : ℕ) → m ≤ 1000
      → ((k : ℕ) → k < positions ts → m ≤ shared T ts k (at T u k)) → Reaches T m ts u
  reach_more u o [] os r m b h = tt
  reach_more u o (t ∷ ts) os r m b h =
      shared_reaches T L u o m b (t ∷ ts) os (λ k l. h k (omega (arith, (reaches_size T L u o c pos (t ∷ ts) os r).0)))

  pub more_reach : (u : Term) → Over T u → (ts : List Term) → All (Over T) ts → Reaches T c ts u → (m : ℕ) → m ≤ 1000 → Reaches T m ts u
      → (k : ℕ) → k < positions ts → m ≤ shared T ts k (at T u k)
  more_reach u o [] os r m b r' k l = absurd (not-suc-le-zero l)
  more_reach u o (t ∷ ts) os r m b r' k l =
      reaches_shared T L u o m b (t ∷ ts) os r' k (omega (arith, (reaches_size T L u o c pos (t ∷ ts) os r).0))

  -- what a term that reaches the cut shares at a position lies between the lowest and the highest there
  pub between : (u : Term) → Over T u → (ts : List Term) → All (Over T) ts → Reaches T c ts u → (k : ℕ) → k < positions ts
      → (lowest_at_lem T c ts k ≤ shared T ts k (at T u k)) × (shared T ts k (at T u k) ≤ highest_at T c ts k)
  between u o [] os r k l = absurd (not-suc-le-zero l)
  between u o (t ∷ ts) os r k l =
      let l' : k < size u = omega (arith, (reaches_size T L u o c pos (t ∷ ts) os r).0) in
      let s : ℕ = at T u k in
      let e : in_set T c (t ∷ ts) k s ≡ true = in_set_lem T c (t ∷ ts) k s (over-at T u o k l') (reaches_shared T L u o c cut (t ∷ ts) os r k l') in (
        rw e at (lowest_le T.size (λ s. cond (in_set T c (t ∷ ts) k s) (shared T (t ∷ ts) k s) 1000) s (over-at T u o k l')),
        rw e at (le_highest T.size (λ s. cond (in_set T c (t ∷ ts) k s) (shared T (t ∷ ts) k s) 0) s (over-at T u o k l')),
      )
