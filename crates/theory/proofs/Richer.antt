-- What a richer table leaves of a match: everything. A term over the one table is one over the other, and no degree of two terms falls, since none of two
-- symbols does; so a matcher stays one, and whatever a matcher reaches is reached still.
use mathlib.Core.Path.{ap, ◌∙◌, subst}
use mathlib.Core.List.{List, [], ◌∷◌}
use mathlib.Core.Bool.{Bool, false}
use Prim.Native.Nat.{ℕ, ◌≤◌}
use native.Mathlib.Nat.{le_trans, le_of_eq}
use native.Mathlib.Omega.{arith}
use lib.ListN.{get_or}
use Rattle.theory.specs.Tree.{Term, Pattern, sym, var, Patterns, ∅ₚ, ◌▸◌, enc, fill}
use Rattle.theory.specs.Table.{Table, Lawful, Richer, Over, degree, Matcher}
use Rattle.theory.specs.Least.{least, All}
use Rattle.theory.specs.Faces.{faces, facing}
use Rattle.theory.specs.Match.{at, IsHighest, IsHighestFor}
use Rattle.theory.specs.Read.{Fine, Fines}
use Rattle.theory.specs.Decode.{as_pattern}
use Rattle.theory.proofs.Lemmas.{all_map}
use Rattle.theory.proofs.Decoding.{term_as, over_as, ground}
use Rattle.theory.proofs.More.{degree_more}

-- the least of what is at least as much for each
least_more : {A : Type 0} (f g : A → ℕ) → ((x : A) → f x ≤ g x) → (xs : List A) → least f xs ≤ least g xs
least_more f g h [] = omega arith
least_more f g h (x ∷ xs) = omega (arith, h x, least_more f g h xs)

module _ (T R : Table) (more : Richer T R) where
  -- LAW: patterns that may be written over the one table may be over the other, and so with terms
  mutual
    pub fine_richer : (vars : Bool) (p : Pattern) → Fine T vars p → Fine R vars p
    fine_richer vars (var v) o = o
    fine_richer vars (sym f ps) o = (omega (arith, o.0, more.same_size), o.1 ∙ more.same_arity f, fines_richer vars ps o.2)

    fines_richer : (vars : Bool) (ps : Patterns) → Fines T vars ps → Fines R vars ps
    fines_richer vars ∅ₚ o = tt
    fines_richer vars (p ▸ ps) o = (fine_richer vars p o.0, fines_richer vars ps o.1)

  pub over_richer : (t : Term) → Over T t → Over R t
  over_richer t o = subst (Over R) (term_as t) (ground R (as_pattern t) (fine_richer false (as_pattern t) (over_as T false t o))).0

  -- LAW: a symbol that is near enough to what the terms ts have at position k stays so
  pub near_richer : (c : ℕ) (ts : List Term) (k s : ℕ) → All (λ t. c ≤ T.deg s (at T t k)) ts → All (λ t. c ≤ R.deg s (at R t k)) ts
  near_richer c ts k s = all_map ts (λ t l. le_trans l (le_trans (more.not_lower s (at T t k)) (le_of_eq (ap (λ n. R.deg s (get_or (enc t) k n)) more.same_size))))

  module _ (Lt : Lawful T) (LR : Lawful R) where
    degree_richer : (t u : Term) → degree T t u ≤ degree R t u
    degree_richer = degree_more T R Lt LR more.not_lower

    module _ (c : ℕ) (p : Pattern) (h : Term) where
      -- THEOREM: every matcher stays one, with a degree that is not lower
      pub matcher_richer : (σ : ℕ → Term) → Matcher T c p h σ → Matcher R c p h σ × (degree T (fill σ p) h ≤ degree R (fill σ p) h)
      matcher_richer σ m =
          let d = degree_richer (fill σ p) h in
          (record { over = λ v s. over_richer (σ v) (m.over v s); reaches = le_trans m.reaches d }, d)

      -- LAW: the highest degree does not fall, nor does a variable's own
      pub highest_richer : (m n : ℕ) → IsHighest T c p h m → IsHighest R c p h n → m ≤ n
      highest_richer m n a b =
          let σ = a.reached.0 in
          let q = matcher_richer σ a.reached.1 in
          omega (arith, a.reached.2, q.1, b.bounds σ q.0)

      pub own_highest_richer : (v m n : ℕ) → IsHighestFor T c p h v m → IsHighestFor R c p h v n → m ≤ n
      own_highest_richer v m n a b =
          let σ = a.reached.0 in
          let q = least_more (degree T (σ v)) (degree R (σ v)) (degree_richer (σ v)) (facing v (faces p h)) in
          omega (arith, a.reached.2, q, b.bounds σ (matcher_richer σ a.reached.1).0)
