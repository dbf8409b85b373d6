-- The order of the packed variables, along the pattern's list: a variable that no node before has comes next, with as many positions as
-- the subterm that faces it there, and any other node leaves the order as it was.
use mathlib.Core.Path.{◌≡◌, sym as inv, ap, ◌∙◌}
use mathlib.Core.List.{List, [], ◌∷◌, ◌++◌}
use mathlib.Core.Bool.{Bool, true, false, cond}
use Prim.Native.Nat.{ℕ, suc, ◌+◌, ◌<◌}
use native.Mathlib.Omega.{arith}
use lib.ListN.{get_or, take, drop}
use lib.Seq.{split_at}
use Rattle.theory.specs.Table.{Table}
use Rattle.theory.specs.Faces.{Face, meets, binds, node_of}
use Rattle.theory.specs.Match.{size}
use Rattle.theory.proofs.Along.{Faced}
use Rattle.theory.proofs.Gathered.{Gathers, take_next}
use Rattle.meaning.specs.Packing.{firsts, order, count_of, among}
use Rattle.meaning.proofs.Loop.{variables_symbol, order_variable, count-first}
use Rattle.meaning.proofs.Lacking.{among-order}

-- LAW: a symbol leaves the order as it was
pub order_symbol : {T : Table} {xs : List ℕ} {fs : List Face} {n : ℕ} → Faced T xs fs n → (k : ℕ) → k < n → get_or xs k 0 < T.size
    → order (take (k + 1) fs) ≡ order (take k fs)
order_symbol {T} {xs} {fs} f k l m = ap order (take_next fs k (omega arith)) ∙ go (get_or fs k (meets 0 0)) (f.nodes k l)
  where
    go : (x : Face) → node_of x ≡ get_or xs k 0 → order (take k fs ++ (x ∷ [])) ≡ order (take k fs)
    go (meets a b) e = ap firsts (variables_symbol (take k fs) a b)
    go (binds v t) e = absurd (omega arith)

module _ {T : Table} {fs : List Face} {k v : ℕ} (g : Gathers T fs k v) where
  next : (b : Bool) → among v (order (take k fs)) ≡ b → order (take (k + 1) fs) ≡ cond b (order (take k fs)) (order (take k fs) ++ (v ∷ []))
  next b e =
      ap order (take_next fs k g.inside)
      ∙ ap (λ x. order (take k fs ++ (x ∷ []))) g.here
      ∙ order_variable (take k fs) v g.subterm
      ∙ ap (λ b. cond b (order (take k fs)) (order (take k fs) ++ (v ∷ []))) (inv (among-order v (take k fs)) ∙ e)

  -- LAW: so does a variable that the order has, and one that it has not comes next
  pub order_met : among v (order (take k fs)) ≡ true → order (take (k + 1) fs) ≡ order (take k fs)
  order_met = next true

  pub order_new : among v (order (take k fs)) ≡ false → order (take (k + 1) fs) ≡ order (take k fs) ++ (v ∷ [])
  order_new = next false

  -- LAW: its positions are those of the subterm that faces it there
  pub count_new : among v (order (take k fs)) ≡ false → count_of fs v ≡ size g.subterm
  count_new e =
      ap (λ l. count_of l v) (split_at fs k (meets 0 0) g.inside ∙ ap (λ x. take k fs ++ (x ∷ drop (suc k) fs)) g.here)
      ∙ count-first (take k fs) v g.subterm (drop (suc k) fs) (inv (among-order v (take k fs)) ∙ e)
