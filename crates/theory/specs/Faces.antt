-- What faces what: the pattern's nodes in preorder, each with what stands there in the heading.

use Rattle.std.specs.Prelude.{List, [], ◌∷◌, ◌++◌, Bool, true, false, ℕ, ◌+◌, eqb}
use Rattle.theory.specs.Tree.{Term, node, Terms, ∅, ◌▹◌, Pattern, var, sym, Patterns, ∅ₚ, ◌▸◌, enc}
use Rattle.theory.specs.Table.{Table, degree}

-- A node of the pattern with what faces it: a symbol faces a symbol of the heading, a variable a subterm of it.
pub data Face : Type 0 where
  meets : ℕ → ℕ → Face
  binds : ℕ → Term → Face

-- The pattern's nodes in preorder, each with what faces it. (Below symbols of different arity nothing faces anything: what the
-- shorter row of arguments lacks is left out.)
abbrev mutual
  pub faces : Pattern → Term → List Face
  faces (var v) t = binds v t ∷ []
  faces (sym f ps) (node g ts) = meets f g ∷ faces_of ps ts

  pub faces_of : Patterns → Terms → List Face
  faces_of ∅ₚ ts = []
  faces_of (p ▸ ps) ∅ = []
  faces_of (p ▸ ps) (t ▹ ts) = faces p t ++ faces_of ps ts

abbrev pub keep : Bool → Term → List Term → List Term
keep true t ts = t ∷ ts
keep false t ts = ts

-- The subterms that face variable v, in preorder.
abbrev pub facing : ℕ → List Face → List Term
facing v [] = []
facing v (meets f g ∷ xs) = facing v xs
facing v (binds w t ∷ xs) = keep (eqb v w) t (facing v xs)

-- The heading's nodes that face the pattern's, one behind the other: a symbol's is one, a variable's are a whole subterm's.
abbrev pub taken : List Face → List ℕ
taken [] = []
taken (meets f g ∷ fs) = g ∷ taken fs
taken (binds v t ∷ fs) = enc t ++ taken fs

-- What a pattern's node brings to the degree of the filled pattern with the heading.
abbrev pub worth : Table → (ℕ → Term) → Face → ℕ
worth T σ (meets f g) = T.deg f g
worth T σ (binds v t) = degree T (σ v) t

-- The pattern's own node, as its list has it.
abbrev pub node_of : Face → ℕ
node_of (meets f g) = f
node_of (binds v t) = 32768 + v
