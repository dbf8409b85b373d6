-- Refusal 10 as a loop over the packed variables finds it. Where nothing clashes the variables of the order are those that stand in the
-- pattern, so that the least of them without a form is the least that stands there without one.
use mathlib.Core.Path.{◌≡◌, refl, sym as inv, ap, ◌∙◌, subst}
use mathlib.Core.List.{List, [], ◌∷◌, ◌++◌}
use mathlib.Core.Bool.{Bool, true, false, ◌&&◌, not, cond, false≢true}
use mathlib.Core.Option.{none, some as just}
use Prim.Native.Nat.{ℕ, zero, suc, ◌≤◌, ◌<◌, min}
use native.Mathlib.Decide.{ℕ_discrete}
use native.Mathlib.Omega.{arith}
use lib.Dec.{eqb}
use borrow.Author.Tests.{eqb-true, eqb-false, eq-eqb, ne_eqb}
use Rattle.theory.specs.Tree.{Term, Pattern, stands}
use Rattle.theory.specs.Table.{Table, Lawful, Over, Overₚ}
use Rattle.theory.specs.Least.{All, least_below}
use Rattle.theory.specs.Faces.{Face, meets, binds, faces, facing}
use Rattle.theory.specs.Match.{clash, formed}
use Rattle.theory.specs.Verdict.{lacking}
use Rattle.theory.specs.Decode.{pattern_of, term_of}
use Rattle.theory.proofs.Decoding.{fine_over, pattern_is, heading_of_lem}
use Rattle.theory.proofs.Along.{Readable, all_faces}
use Rattle.theory.proofs.Lemmas.{and_true}
use Rattle.theory.proofs.Matchers.{Bound, standing, none_clear}
use Rattle.theory.proofs.Present.{present}
use Rattle.meaning.specs.Limits.{variable_count}
use Rattle.meaning.specs.Packing.{variables, without, firsts, order, among}
use Rattle.meaning.specs.Search.{worst, unformed}
use Rattle.meaning.proofs.First.{least_on, least_at}
use Rattle.meaning.proofs.Packing.{order-among}

-- ---- which variables are packed

without_other : (v w : ℕ) → (v ≡ w → ⊥) → (xs : List ℕ) → among v (without w xs) ≡ among v xs
without_other v w n [] = refl
without_other v w n (x ∷ xs) = go (eqb w x) refl (without_other v w n xs)
  where
    go : (b : Bool) → eqb w x ≡ b → among v (without w xs) ≡ among v xs → among v (cond b (without w xs) (x ∷ without w xs)) ≡ cond (eqb v x) true (among v xs)
    go true q e = rw (ne_eqb v x (λ p. n (p ∙ inv (eqb-true w x q)))) e
    go false q e = ap (λ b. cond (eqb v x) true b) e

among-firsts : (v : ℕ) (xs : List ℕ) → among v (firsts xs) ≡ among v xs
among-firsts v [] = refl
among-firsts v (x ∷ xs) = go (eqb v x) refl (among-firsts v xs)
  where
    go : (b : Bool) → eqb v x ≡ b → among v (firsts xs) ≡ among v xs → cond b true (among v (without x (firsts xs))) ≡ cond b true (among v xs)
    go true q e = refl
    go false q e = without_other v x (eqb-false v x q) (firsts xs) ∙ e

-- LAW: the order has the variables that stand at the nodes
pub among-order : (v : ℕ) (fs : List Face) → among v (order fs) ≡ among v (variables fs)
among-order v fs = among-firsts v (variables fs)

bound_among : (Q : ℕ → Type 0) (v : ℕ) (fs : List Face) → All (Bound Q) fs → among v (variables fs) ≡ true → Q v
bound_among Q v [] h e = absurd (false≢true e)
bound_among Q v (meets f g ∷ fs) h e = bound_among Q v fs h.1 e
bound_among Q v (binds w t ∷ fs) h e = go (eqb v w) refl e (bound_among Q v fs h.1)
  where
    go : (b : Bool) → eqb v w ≡ b → cond b true (among v (variables fs)) ≡ true → (among v (variables fs) ≡ true → Q v) → Q v
    go true q e rest = subst Q (inv (eqb-true v w q)) h.0
    go false q e rest = rest e

both_ways : (a b : Bool) → (a ≡ true → b ≡ true) → (b ≡ true → a ≡ true) → a ≡ b
both_ways true b f g = inv (f refl)
both_ways false true f g = g refl
both_ways false false f g = refl

-- ---- the least bad one

or_here : (a b : Bool) → b ≡ true → cond a true b ≡ true
or_here true b e = refl
or_here false b e = e

none_below : (n : ℕ) (b : ℕ → Bool) → ((v : ℕ) → v < n → b v ≡ false) → least_below n b ≡ none
none_below zero b h = refl
none_below (suc n) b h = least_on b n (none_below n b (λ v l. h v (omega arith))) (h n (omega arith))

module _ (bad : ℕ → Bool) where
  pub worst_top : (vs : List ℕ) → worst bad vs ≤ variable_count
  worst_top [] = omega arith
  worst_top (v ∷ vs) = omega (arith, worst_top vs)

  -- LAW: one more: whatever it is, one that is bad, one that is not
  pub worst_last : (vs : List ℕ) (v : ℕ) → worst bad (vs ++ (v ∷ [])) ≡ min (worst bad vs) (cond (bad v) v variable_count)
  worst_last [] v = omega arith
  worst_last (w ∷ vs) v = omega (arith, worst_last vs v)

  pub worst_bad : (vs : List ℕ) (v : ℕ) → bad v ≡ true → worst bad (vs ++ (v ∷ [])) ≡ min (worst bad vs) v
  worst_bad vs v e = worst_last vs v ∙ rw e

  pub worst_good : (vs : List ℕ) (v : ℕ) → bad v ≡ false → worst bad (vs ++ (v ∷ [])) ≡ worst bad vs
  worst_good vs v e = worst_last vs v ∙ rw e (omega (arith, worst_top vs))

  -- it is no more than any bad one, and is itself bad and of the list
  worst-least : (vs : List ℕ) (v : ℕ) → among v vs ≡ true → bad v ≡ true → worst bad vs ≤ v
  worst-least [] v a b = absurd (false≢true a)
  worst-least (w ∷ vs) v a b = go (eqb v w) refl a (worst-least vs v)
    where
      go : (t : Bool) → eqb v w ≡ t → cond t true (among v vs) ≡ true → (among v vs ≡ true → bad v ≡ true → worst bad vs ≤ v) → worst bad (w ∷ vs) ≤ v
      go true q a rest = rw (← eqb-true v w q, b) (omega arith)
      go false q a rest = omega (arith, rest a b)

  worst_is : (vs : List ℕ) (n : ℕ) → worst bad vs ≡ n → n < variable_count → (among n vs ≡ true) × (bad n ≡ true)
  worst_is [] n e l = absurd (omega arith)
  worst_is (v ∷ vs) n e l = go (bad v) refl (ℕ_discrete n v) e (worst_is vs n)
    where
      behind : (among n vs ≡ true) × (bad n ≡ true) → (among n (v ∷ vs) ≡ true) × (bad n ≡ true)
      behind r = (or_here (eqb n v) (among n vs) r.0, r.1)

      go : (t : Bool) → bad v ≡ t → Dec (n ≡ v) → min (cond t v variable_count) (worst bad vs) ≡ n
          → (worst bad vs ≡ n → n < variable_count → (among n vs ≡ true) × (bad n ≡ true)) → (among n (v ∷ vs) ≡ true) × (bad n ≡ true)
      go false q d e rest = behind (rest (omega arith) l)
      go true q (yes d) e rest = rw d (rw (eq-eqb v v refl), q)
      go true q (no d) e rest = behind (rest (omega arith) l)

  -- a test that the bad ones of the list pass, and no others
  module _ (vs : List ℕ) (test : ℕ → Bool) (is : (v : ℕ) → test v ≡ (among v vs && bad v)) where
    passes_not : (v : ℕ) → v < worst bad vs → test v ≡ false
    passes_not v l = is v ∙ go (among v vs) refl (bad v) refl
      where
        go : (a : Bool) → among v vs ≡ a → (b : Bool) → bad v ≡ b → (a && b) ≡ false
        go false p b q = refl
        go true p false q = refl
        go true p true q = absurd (omega (arith, worst-least vs v p q))

    -- LAW: the least number that passes is the worst
    pub worst-none : worst bad vs ≡ variable_count → least_below variable_count test ≡ none
    worst-none e = none_below variable_count test (λ v l. passes_not v (omega arith))

    pub worst_just : worst bad vs < variable_count → least_below variable_count test ≡ just (worst bad vs)
    worst_just l =
        let w = worst_is vs (worst bad vs) refl l in
        least_at test (worst bad vs) variable_count (none_below (worst bad vs) test passes_not)
        (is (worst bad vs) ∙ and_true (among (worst bad vs) vs) (bad (worst bad vs)) w.0 w.1) l

-- ---- refusal 10

-- nothing clashes
pub record Unclashed (T : Table) (c : ℕ) (p : Pattern) (h : Term) : Type 0 where
  pub lawful : Lawful T
  pub positive : 0 < c
  pub pattern_over : Overₚ T p
  pub heading_over : Over T h
  pub clear : clash T c (faces p h) ≡ none

pub unclashed : {T : Table} {xs ys : List ℕ} → Readable T xs ys → (c : ℕ) → 0 < c → clash T c (all_faces T xs ys) ≡ none → Unclashed T c (pattern_of T xs) (term_of T ys)
unclashed {T} {xs} {ys} r c pos e =
    record {
      lawful = r.lawful;
      positive = pos;
      pattern_over = fine_over T true (pattern_of T xs) (pattern_is T r.small xs r.pattern_reads).0;
      heading_over = (heading_of_lem T r.small ys r.heading_reads).0;
      clear = e;
    }

module _ {T : Table} {c : ℕ} {p : Pattern} {h : Term} (u : Unclashed T c p h) where
  -- LAW: the variables that stand in the pattern are packed, and no others
  pub stands_order : (v : ℕ) → stands v p ≡ among v (order (faces p h))
  stands_order v =
      both_ways (stands v p) (among v (order (faces p h)))
      (λ s. order-among v (faces p h) (present T u.lawful c u.positive v p h u.pattern_over u.heading_over (none_clear T c (faces p h) u.clear) s))
      (λ s. bound_among (λ w. stands w p ≡ true) v (faces p h) (standing (λ w. stands w p ≡ true) p h (λ w s. s)) (inv (among-order v (faces p h)) ∙ s))

  lacks : (v : ℕ) → lacking T c p h v ≡ (among v (order (faces p h)) && unformed T c (faces p h) v)
  lacks v = ap (λ b. b && unformed T c (faces p h) v) (stands_order v)

  -- LAW: every variable of the order has a form
  pub lacking-none : worst (unformed T c (faces p h)) (order (faces p h)) ≡ variable_count → least_below variable_count (lacking T c p h) ≡ none
  lacking-none = worst-none (unformed T c (faces p h)) (order (faces p h)) (lacking T c p h) lacks

  -- LAW: the least that has none
  pub lacking_just : worst (unformed T c (faces p h)) (order (faces p h)) < variable_count
      → least_below variable_count (lacking T c p h) ≡ just (worst (unformed T c (faces p h)) (order (faces p h)))
  lacking_just = worst_just (unformed T c (faces p h)) (order (faces p h)) (lacking T c p h) lacks
