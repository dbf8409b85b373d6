-- The verdict of a match means what it has to mean.
use mathlib.Core.Path.{◌≡◌, refl, sym as inv, ap, ◌∙◌, subst}
use mathlib.Core.Logic.{◌↔◌, ◌⊎◌, inl, inr, ⊎_elim}
use mathlib.Core.List.{List, []}
use mathlib.Core.Bool.{Bool, true, false, ◌&&◌, ◌||◌, not, cond, false≢true}
use mathlib.Core.Option.{Option, none, some as just, some-ne-none, some-injective}
use Prim.Native.Nat.{ℕ, zero, suc, ◌+◌, ◌≤◌, ◌<◌}
use native.Mathlib.Nat.{not-suc-le-zero}
use native.Mathlib.Omega.{arith}
use lib.Dec.{eqb}
use borrow.Author.Tests.{eqb-true}
use Rattle.theory.specs.Tree.{Term, Pattern, var, sym, Patterns, ∅ₚ, ◌▸◌, stands, stands_in}
use Rattle.theory.specs.Table.{Table, Lawful, Over, Overₚ, Matcher}
use Rattle.theory.specs.Faces.{faces, facing}
use Rattle.theory.specs.Match.{clash, formed, highest_at, lowest_of_lem, highest_of, Matches}
use Rattle.theory.specs.Read.{Fine, Fines}
use Rattle.theory.specs.Verdict.{settled, lacking, verdict, HasForm, NoMatcher, MeansFormless, MeansMatch, Means}
use Rattle.theory.specs.Least.{least_below}
use Rattle.theory.proofs.Lemmas.{and_left, and_right, least-none, LeastAt, least_just}
use Rattle.theory.proofs.Decoding.{fine_over}
use Rattle.theory.proofs.Matchers.{matchers, facing-over}
use Rattle.theory.proofs.Forms.{some_form, symbol_most, formed_of}
use Rattle.theory.proofs.Theorems.{answered, lowest_is, highest_is}
use Rattle.theory.proofs.More.{clash-at}

-- ---- tests

pub or_cases : (a b : Bool) → (a || b) ≡ true → (a ≡ true) ⊎ (b ≡ true)
or_cases true b e = inl refl
or_cases false b e = inr e

not_true : (b : Bool) → not b ≡ true → b ≡ false
not_true true e = inv e
not_true false e = refl

lack_not : (a b : Bool) → (a && not b) ≡ false → a ≡ true → b ≡ true
lack_not true true e q = refl
lack_not true false e q = inv e
lack_not false b e q = absurd (false≢true q)

-- the variables of a fine pattern are below 32
module _ (T : Table) where
  mutual
    pub stands_small : (v : ℕ) (p : Pattern) → Fine T true p → stands v p ≡ true → v < 32
    stands_small v (var w) o e = omega (arith, o.1, eqb-true v w e)
    stands_small v (sym f ps) o e = stands_in_small v ps o.2 e

    stands_in_small : (v : ℕ) (ps : Patterns) → Fines T true ps → stands_in v ps ≡ true → v < 32
    stands_in_small v ∅ₚ o e = absurd (false≢true e)
    stands_in_small v (p ▸ ps) o e = ⊎_elim (λ x. stands_small v p o.0 x) (λ x. stands_in_small v ps o.1 x) (or_cases (stands v p) (stands_in v ps) e)

module _ (T : Table) (L : Lawful T) (p : Pattern) (h : Term) (op : Fine T true p) (oh : Over T h) (c : ℕ) (pos : 0 < c) (cut : c ≤ 1000) where
  has_form : (v : ℕ) → formed T c (facing v (faces p h)) ≡ true → HasForm T c p h v
  has_form v e =
      let f = some_form T L c pos cut (highest_at T c) (symbol_most T L c pos cut) h oh (facing v (faces p h)) (facing-over T p h oh v) (inr e) in
      (f.term, f.over, f.reaches)

  no_form : (v : ℕ) → formed T c (facing v (faces p h)) ≡ false → HasForm T c p h v → ⊥
  no_form v e u = false≢true (inv e ∙ formed_of T L c pos cut u.0 u.1 (facing v (faces p h)) (facing-over T p h oh v) u.2)

  -- THEOREM: every verdict means what it has to mean
  pub verdict_means : Means T c p h (verdict T c p h)
  unfolding verdict
  verdict_means = go (clash T c (faces p h)) refl (least_below 32 (lacking T c p h)) refl
    where
      over_p : Overₚ T p
      over_p = fine_over T true p op

      must : (σ : ℕ → Term) → Matcher T c p h σ → Matches T c p h
      must σ m = (answered T L p h over_p oh c pos cut).1 (σ, m)

      go : (o : Option ℕ) → clash T c (faces p h) ≡ o → (q : Option ℕ) → least_below 32 (lacking T c p h) ≡ q
          → Means T c p h (settled o q (lowest_of_lem T c (faces p h)) (highest_of T c (faces p h)))
      go (just i) e q f = (clash-at T c (faces p h) i e, λ σ m. some-ne-none i (inv e ∙ (must σ m).clear))
      go none e (just v) f =
          let r = least_just 32 (lacking T c p h) v f in
          let s : stands v p ≡ true = and_left (stands v p) (not (formed T c (facing v (faces p h)))) r.passes in
          let n : formed T c (facing v (faces p h)) ≡ false = not_true (formed T c (facing v (faces p h))) (and_right (stands v p) (not (formed T c (facing v (faces p h)))) r.passes) in
          record {
            clear = e;
            standing = s;
            lacks = no_form v n;
            least = λ w l t. has_form w (lack_not (stands w p) (formed T c (facing w (faces p h))) (r.least w l) t);
            no_matcher = λ σ m. false≢true (inv n ∙ (must σ m).forms v s);
          }
      go none e none f =
          let a : Matches T c p h = record { clear = e; forms = λ v s. lack_not (stands v p) (formed T c (facing v (faces p h))) (least-none 32 (lacking T c p h) f v (stands_small T v p op s)) s } in
          record {
            lowest = lowest_is T L p h over_p oh c pos cut a;
            highest = highest_is T L p h over_p oh c pos cut a;
            matchers = matchers T L p h over_p oh c pos cut;
          }
