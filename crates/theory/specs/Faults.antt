-- At which place a list that is no term is at fault, said of trees and depths alone (`Read` has the walk that finds it): a list's nodes begin a term
-- up to some node, and the first with which they begin none is the fault.
use Rattle.std.specs.Prelude.{◌≡◌, ◌⊎◌, List, [], ◌∷◌, ◌++◌, Bool, true, false, ℕ, suc, ◌≤◌, ◌<◌, length, take}
use Rattle.theory.specs.Tree.{Pattern, var, sym, Patterns, ∅ₚ, ◌▸◌, encₚ}
use Rattle.theory.specs.Table.{Table}
use Rattle.theory.specs.Least.{All}
use Rattle.theory.specs.Read.{Fine, depth}

-- How deep each node of a pattern stands, in preorder, if its first stands d deep.
abbrev mutual
  pub levels : ℕ → Pattern → List ℕ
  levels d (var v) = d ∷ []
  levels d (sym f ps) = d ∷ levels_in (suc d) ps

  pub levels_in : ℕ → Patterns → List ℕ
  levels_in d ∅ₚ = []
  levels_in d (p ▸ ps) = levels d p ++ levels_in d ps

module _ (T : Table) (vars : Bool) where
  -- These nodes begin a term: they are the first of some pattern's, none of them stands deeper than 64, and none is a variable where variables are
  -- barred. What the pattern has behind them is open: variables may fill it even there, at any depth, so that no table lacks what can fill it.
  pub record Begins (nodes : List ℕ) : Type 0 where
    pub pattern : Pattern
    pub fine : Fine T true pattern
    pub begins_with : take (length nodes) (encₚ pattern) ≡ nodes
    pub deep : All (λ d. d ≤ 64) (take (length nodes) (levels 1 pattern))
    pub ground : vars ≡ false → All (λ x. x < T.size) nodes

  -- The list's fault is at j: the nodes before j begin a term, with the node at j they begin none, and the list is not itself a term. (Where the
  -- nodes before j are a whole term already, any node at j is the fault. Where j is the list's length, their term is still open.)
  pub record FaultAt (list : List ℕ) (j : ℕ) : Type 0 where
    pub inside : j ≤ length list
    pub begins : Begins (take j list)
    pub no_further : j < length list → Begins (take (suc j) list) → ⊥
    pub no_term : (p : Pattern) → Fine T vars p → depth p ≤ 64 → list ≡ encₚ p → ⊥

  -- The place of a list that is no term: its fault, unless it has too many nodes; then 1024, whatever they are.
  abbrev pub FaultPlace : List ℕ → ℕ → Type 0
  FaultPlace list j = ((1024 < length list) × (j ≡ 1024)) ⊎ ((length list ≤ 1024) × FaultAt list j)
