-- A variable's own lowest and highest degree: what a term has with all the subterms that face the variable is the least that its symbols share with
-- them, position by position; so the forms that reach the lowest and the highest at each position reach them here too.
use mathlib.Core.Path.{◌≡◌, sym as inv, ◌∙◌}
use mathlib.Core.List.{List}
use mathlib.Core.Bool.{true}
use Prim.Native.Nat.{ℕ, ◌≤◌, ◌<◌}
use native.Mathlib.Nat.{le_refl, le_trans, le_antisymm, le_of_eq}
use Rattle.theory.specs.Tree.{Term, Pattern, stands}
use Rattle.theory.specs.Table.{Table, Lawful, Over, Overₚ, degree, Matcher}
use Rattle.theory.specs.Least.{All, some, lowest}
use Rattle.theory.specs.Faces.{faces, facing}
use Rattle.theory.specs.Match.{at, shared, in_set, positions, formed, lowest_at_lem, highest_at, lowest_for, highest_for, Reaches, Matches, with_all_lem, IsLowestFor, IsHighestFor}
use Rattle.theory.proofs.Lemmas.{least_top, all_of_least, least_of_all, lowest_le, lowest_top, le_lowest, every-at}
use Rattle.theory.proofs.Matchers.{facing-over}
use Rattle.theory.proofs.Forms.{Symbol, symbol_most, symbol_least, reach_more, more_reach, between}
use Rattle.theory.proofs.Theorems.{matcher_reaches, forms, form_matcher}
use Rattle.theory.proofs.More.{highest-same}

-- the least over the numbers below n, of what is at least as much for each
lowest_more : (n : ℕ) (f g : ℕ → ℕ) → ((k : ℕ) → k < n → f k ≤ g k) → lowest n f ≤ lowest n g
lowest_more n f g h = le_lowest n g (lowest n f) (lowest_top n f) (λ k l. le_trans (lowest_le n f k l) (h k l))

lowest-same : (n : ℕ) (f g : ℕ → ℕ) → ((k : ℕ) → k < n → f k ≡ g k) → lowest n f ≡ lowest n g
lowest-same n f g e = le_antisymm (lowest_more n f g (λ k l. le_of_eq (e k l))) (lowest_more n g f (λ k l. le_of_eq (inv (e k l))))

module _ (T : Table) (L : Lawful T) (c : ℕ) (pos : 0 < c) (cut : c ≤ 1000) (u : Term) (o : Over T u) (ts : List Term) (os : All (Over T) ts) (r : Reaches T c ts u) where
  -- LAW: the degree of a term with all that face a variable, position by position
  pub with_all : with_all_lem T ts u ≡ lowest (positions ts) (λ k. shared T ts k (at T u k))
  with_all =
      le_antisymm
      (le_lowest (positions ts) (λ k. shared T ts k (at T u k)) (with_all_lem T ts u) top
      (more_reach T L c pos cut u o ts os r (with_all_lem T ts u) top (all_of_least (λ t. degree T u t) (with_all_lem T ts u) ts (le_refl (with_all_lem T ts u)))))
      (least_of_all (λ t. degree T u t) low ts (lowest_top (positions ts) _)
      (reach_more T L c pos cut u o ts os r low (lowest_top (positions ts) _) (λ k l. lowest_le (positions ts) (λ k. shared T ts k (at T u k)) k l)))
    where
      top : with_all_lem T ts u ≤ 1000
      top = least_top (λ t. degree T u t) ts

      low : ℕ
      low = lowest (positions ts) (λ k. shared T ts k (at T u k))

module _ (T : Table) (L : Lawful T) (p : Pattern) (h : Term) (op : Overₚ T p) (oh : Over T h) (c : ℕ) (pos : 0 < c) (cut : c ≤ 1000) (a : Matches T c p h) (v : ℕ) (s : stands v p ≡ true) where
  abbrev ts : List Term
  ts = facing v (faces p h)

  os : All (Over T) ts
  os = facing-over T p h oh v

  -- what a matcher's term has, position by position, and between which bounds
  by_position : (σ : ℕ → Term) → Matcher T c p h σ → with_all_lem T ts (σ v) ≡ lowest (positions ts) (λ k. shared T ts k (at T (σ v) k))
  by_position σ m = with_all T L c pos cut (σ v) (m.over v s) ts os (matcher_reaches T L p h op oh c pos cut σ m v)

  at_each : (σ : ℕ → Term) → Matcher T c p h σ → (k : ℕ) → k < positions ts
      → (lowest_at_lem T c ts k ≤ shared T ts k (at T (σ v) k)) × (shared T ts k (at T (σ v) k) ≤ highest_at T c ts k)
  at_each σ m = between T L c pos cut (σ v) (m.over v s) ts os (matcher_reaches T L p h op oh c pos cut σ m v)

  -- a rating that a symbol has at every position is what some matcher's term has
  rated : (rate : List Term → ℕ → ℕ) → ((ts : List Term) (k : ℕ) → some T.size (in_set T c ts k) ≡ true → Symbol T L c pos cut ts k (rate ts k))
      → (σ : ℕ → Term) × Matcher T c p h σ × (with_all_lem T ts (σ v) ≡ lowest (positions ts) (rate ts))
  rated rate sel =
      let f = forms T L p h op oh c pos cut rate sel a in
      let m = form_matcher T L p h op oh c pos cut rate a f in
      ((λ v. (f v).term), m, by_position (λ v. (f v).term) m ∙ lowest-same (positions ts) _ (rate ts) (f v).values)

  -- THEOREM: a variable's own lowest and highest degree
  pub lowest_for_lem : IsLowestFor T c p h v (lowest_for T c ts)
  lowest_for_lem =
      record {
        reached = rated (lowest_at_lem T c) (symbol_least T L c pos cut);
        bounds = λ σ m. le_trans (lowest_more (positions ts) (lowest_at_lem T c ts) _ (λ k l. (at_each σ m k l).0)) (le_of_eq (inv (by_position σ m)));
      }

  pub highest_for_lem : IsHighestFor T c p h v (highest_for T c ts)
  highest_for_lem =
      record {
        reached = rated (highest_at T c) (symbol_most T L c pos cut);
        bounds = λ σ m. le_trans (le_of_eq (by_position σ m)) (lowest_more (positions ts) _ (highest_at T c ts) (λ k l. (at_each σ m k l).1));
      }

-- THEOREM: a variable's own highest degree is the same at two cuts that both leave it a form
pub highest_for_cut : (T : Table) (c d : ℕ) → c ≤ d → (ts : List Term) → formed T d ts ≡ true → highest_for T d ts ≡ highest_for T c ts
highest_for_cut T c d up ts e =
    lowest-same (positions ts) (highest_at T d ts) (highest_at T c ts)
    (λ k l. highest-same T ts k c d up (every-at (positions ts) (λ k. some T.size (in_set T d ts k)) e k l))

-- LAW: a variable's own lowest, own highest degree is one number
module _ (T : Table) (c : ℕ) (p : Pattern) (h : Term) (v m n : ℕ) where
  pub one_lowest_for : IsLowestFor T c p h v m → IsLowestFor T c p h v n → m ≡ n
  one_lowest_for a b =
      le_antisymm (le_trans (a.bounds b.reached.0 b.reached.1) (le_of_eq b.reached.2))
      (le_trans (b.bounds a.reached.0 a.reached.1) (le_of_eq a.reached.2))

  pub one_highest_for : IsHighestFor T c p h v m → IsHighestFor T c p h v n → m ≡ n
  one_highest_for a b =
      le_antisymm (le_trans (le_of_eq (inv a.reached.2)) (b.bounds a.reached.0 a.reached.1))
      (le_trans (le_of_eq (inv b.reached.2)) (a.bounds b.reached.0 b.reached.1))
