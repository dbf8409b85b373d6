-- The subterms that face a variable, gathered along the pattern's list: a node that is the variable adds the subterm that faces it, and
-- any other node adds nothing.
use mathlib.Core.Path.{◌≡◌, refl, sym as inv, ap, ◌∙◌}
use mathlib.Core.List.{List, [], ◌∷◌, ◌++◌, append-nil}
use mathlib.Core.Option.{none}
use Prim.Native.Nat.{ℕ, zero, suc, ◌+◌, ◌≤◌, ◌<◌}
use native.Mathlib.Nat.{not-suc-le-zero}
use native.Mathlib.Decide.{dec_lt}
use native.Mathlib.Numerals.{add-one}
use native.Mathlib.Omega.{arith}
use borrow.Author.Tests.{eq-eqb, ne_eqb}
use lib.ListN.{length, get_or, take, drop, get_or-eq_default}
use lib.Seq.{take-suc, get_or-take, get_or-drop}
use Rattle.theory.specs.Tree.{Term, enc}
use Rattle.theory.specs.Table.{Table, Over}
use Rattle.theory.specs.Faces.{Face, meets, binds, facing, node_of}
use Rattle.theory.specs.Match.{size, at, clash}
use Rattle.theory.proofs.Lemmas.{all_right, all_get_d}
use Rattle.theory.proofs.Growing.{facing-append}
use Rattle.theory.proofs.Matchers.{Clear, none_clear}
use Rattle.theory.proofs.Along.{Readable, all_faces, Known, Faced, Along, along_start, along_symbol, along_variable, along_faced}

-- ---- where nothing clashes every node of the pattern's list faces something

module _ {T : Table} {xs ys : List ℕ} (r : Readable T xs ys) (c : ℕ) (pos : 0 < c) (clear : clash T c (all_faces T xs ys) ≡ none) where
  -- the loop, to its end
  run : (n : ℕ) (done : List Face) (i j : ℕ) → i + n ≡ length xs → Along T xs ys done i j → Faced T xs (all_faces T xs ys) (length xs)
  run zero done i j e a = along_faced r a (omega arith)
  run (suc n) done i j e a = go (run n) (dec_lt (get_or xs i 0) T.size)
    where
      near : (f g : ℕ) (rest : List Face) → all_faces T xs ys ≡ done ++ (meets f g ∷ rest) → 0 < T.deg f g
      near f g rest q =
          let h = all_right (Clear T c) done (meets f g ∷ rest) (none_clear T c (done ++ (meets f g ∷ rest)) (ap (clash T c) (inv q) ∙ clear)) in
          omega (arith, h.0)

      go : ((done : List Face) (i j : ℕ) → i + n ≡ length xs → Along T xs ys done i j → Faced T xs (all_faces T xs ys) (length xs)) → Dec (get_or xs i 0 < T.size)
          → Faced T xs (all_faces T xs ys) (length xs)
      go on (yes m) =
          let s = along_symbol r a (omega arith) m in
          on _ (i + 1) (j + 1) (omega arith) (s.on (near _ _ s.rest s.next))
      go on (no m) = on _ (i + 1) _ (omega arith) (along_variable r a (omega arith) (omega arith)).on

  -- LAW: each node faces something
  pub faced : Faced T xs (all_faces T xs ys) (length xs)
  faced = run (length xs) [] 0 0 (omega arith) (along_start r)

-- ---- one face more

pub facing-same : (v : ℕ) (fs : List Face) (t : Term) → facing v (fs ++ (binds v t ∷ [])) ≡ facing v fs ++ (t ∷ [])
facing-same v fs t = facing-append v fs (binds v t ∷ []) ∙ rw (eq-eqb v v refl)

pub facing_other : (v : ℕ) (fs : List Face) (x : Face) → (node_of x ≡ 32768 + v → ⊥) → facing v (fs ++ (x ∷ [])) ≡ facing v fs
facing_other v fs (meets f g) n = facing-append v fs (meets f g ∷ []) ∙ append-nil (facing v fs)
facing_other v fs (binds w t) n =
    facing-append v fs (binds w t ∷ []) ∙ rw (ne_eqb v w (λ e. n (ap (λ u. 32768 + u) (inv e)))) (append-nil (facing v fs))

-- ---- one node more of the pattern's list

-- the node at k is variable v
pub record Gathers (T : Table) (fs : List Face) (k v : ℕ) : Type 0 where
  pub inside : k < length fs
  pub subterm : Term
  pub over : Over T subterm
  pub here : get_or fs k (meets 0 0) ≡ binds v subterm
  pub on : facing v (take (k + 1) fs) ≡ facing v (take k fs) ++ (subterm ∷ [])

pub take_next : (fs : List Face) (k : ℕ) → k < length fs → take (k + 1) fs ≡ take k fs ++ (get_or fs k (meets 0 0) ∷ [])
take_next fs k l = rw add-one (take-suc fs k (meets 0 0) l)

module _ {T : Table} {xs : List ℕ} {fs : List Face} {n : ℕ} (f : Faced T xs fs n) where
  -- LAW: the variable's node adds its subterm
  pub gather_same : (k v : ℕ) → k < n → get_or xs k 0 ≡ 32768 + v → Gathers T fs k v
  gather_same k v l e = go (get_or fs k (meets 0 0)) refl (all_get_d (Known T) fs k (meets 0 0) (omega arith) f.known) (f.nodes k l ∙ e)
    where
      go : (x : Face) → get_or fs k (meets 0 0) ≡ x → Known T x → node_of x ≡ 32768 + v → Gathers T fs k v
      go (meets a b) q h s = absurd (omega arith)
      go (binds w t) q h s =
          let is_v : w ≡ v = omega arith in
          let here : get_or fs k (meets 0 0) ≡ binds v t = q ∙ ap (λ u. binds u t) is_v in
          record {
            inside = omega arith;
            subterm = t;
            over = h.1;
            here = here;
            on = ap (facing v) (take_next fs k (omega arith)) ∙ ap (λ x. facing v (take k fs ++ (x ∷ []))) here ∙ facing-same v (take k fs) t;
          }

  -- LAW: any other node adds nothing
  pub gather_other : (k v : ℕ) → k < n → (get_or xs k 0 ≡ 32768 + v → ⊥) → facing v (take (k + 1) fs) ≡ facing v (take k fs)
  gather_other k v l e =
      ap (facing v) (take_next fs k (omega arith)) ∙ facing_other v (take k fs) (get_or fs k (meets 0 0)) (λ q. e (inv (f.nodes k l) ∙ q))

-- ---- a subterm's symbols, read in the heading's list

default : (xs : List ℕ) (k d e : ℕ) → k < length xs → get_or xs k d ≡ get_or xs k e
default [] k d e l = absurd (not-suc-le-zero l)
default (x ∷ xs) zero d e l = refl
default (x ∷ xs) (suc k) d e l = default xs k d e (omega arith)

module _ (T : Table) (t : Term) where
  -- LAW: a subterm that stands at j has its symbol k at j + k
  pub at_node : (ys : List ℕ) (j : ℕ) → take (size t) (drop j ys) ≡ enc t → (k : ℕ) → k < size t → at T t k ≡ get_or ys (j + k) 0
  at_node ys j e k l = default (enc t) k T.size 0 l ∙ ap (λ l. get_or l k 0) (inv e) ∙ get_or-take (size t) (drop j ys) k 0 l ∙ get_or-drop j ys k 0

  -- LAW: and none past its end
  pub at_past : (k : ℕ) → size t ≤ k → at T t k ≡ T.size
  at_past k l = get_or-eq_default (enc t) T.size l
