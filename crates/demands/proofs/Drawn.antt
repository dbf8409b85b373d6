-- What is drawn is a matcher and the other way round (demand 2, of both calls), and matchers are as the cuts say.
use mathlib.Core.Path.{sym as inv, subst}
use mathlib.Core.List.{List}
use Prim.Native.Nat.{ℕ}
use Rattle.theory.specs.Tree.{Term, Pattern}
use Rattle.meaning.specs.File.{table_in}
use Rattle.meaning.specs.Calls.{degrees, Matched}
use Rattle.meaning.specs.Demands.{WritesTerm, WritesPattern, Decides, TwoCuts, Demand2 as MatchOf, Demand3 as CutsOf}
use Rattle.meaning.proofs.Wrong.{found_given}
use Rattle.demands.specs.Program.{Program}
use Rattle.demands.specs.Demand2.{Demand2}
use Rattle.demands.specs.Demand3.{DrawnOf, OfTwoCuts, Demand3}

module _ (table pattern heading : List ℕ) (p : Pattern) (wp : WritesPattern (table_in table) pattern p) (h : Term) (wh : WritesTerm (table_in table) heading h) where
  -- of the trees that the lists write, whichever way they are named
  decides : (cut : ℕ) (r : Matched) → MatchOf table pattern heading cut r → Decides (table_in table) cut p h r
  decides cut r d =
      subst (λ x. Decides (table_in table) cut x h r) (inv (d.writes_pattern.only p wp))
      (subst (λ y. Decides (table_in table) cut d.p y r) (inv (d.writes_heading.only h wh)) d.decides)

  two_cuts : (cut₁ : ℕ) (r₁ : Matched) (cut₂ : ℕ) (r₂ : Matched) → CutsOf table pattern heading cut₁ r₁ cut₂ r₂ → TwoCuts (table_in table) p h cut₁ r₁ cut₂ r₂
  two_cuts cut₁ r₁ cut₂ r₂ d =
      subst (λ x. TwoCuts (table_in table) x h cut₁ r₁ cut₂ r₂) (inv (d.writes_pattern.only p wp))
      (subst (λ y. TwoCuts (table_in table) d.p y cut₁ r₁ cut₂ r₂) (inv (d.writes_heading.only h wh)) d.two_cuts)

-- LAW
drawn_of : (table pattern heading : List ℕ) (cut₁ : ℕ) (r₁ : Matched) (cut₂ : ℕ) (r₂ : Matched) → MatchOf table pattern heading cut₁ r₁ → MatchOf table pattern heading cut₂ r₂
    → CutsOf table pattern heading cut₁ r₁ cut₂ r₂ → DrawnOf table pattern heading cut₁ r₁ cut₂ r₂
drawn_of table pattern heading cut₁ r₁ cut₂ r₂ one two cuts p wp h wh (degrees low high) e σ =
    let T = table_in table in
    let c = two_cuts table pattern heading p wp h wh cut₁ r₁ cut₂ r₂ cuts in
    let n = c.answers low high e in
    let f₁ = found_given T cut₁ p h r₁ (decides table pattern heading p wp h wh cut₁ r₁ one) (degrees n.low₁ n.high₁) n.first_answers in
    let f₂ = found_given T cut₂ p h r₂ (decides table pattern heading p wp h wh cut₂ r₂ two) (degrees low high) e in (
      (λ x. let m = (c.substitutions σ).0 ((f₂.matchers σ).1 x) in ((f₁.matchers σ).0 m.0, m.1)),
      (λ y. (f₂.matchers σ).0 ((c.substitutions σ).1 ((f₁.matchers σ).1 y.0, y.1))),
    )

-- THEOREM: so demand 3 is met by a program that meets demand 2 and of whose cuts so much is known
pub by_cuts : (P : Program) → Demand2 P → OfTwoCuts P CutsOf → Demand3 P
by_cuts P two cuts =
    record {
      cuts = cuts;
      drawn = λ table pattern heading cut₁ spans₁ sets₁ cut₂ spans₂ sets₂ up a₁ a₂.
          drawn_of table pattern heading cut₁ _ cut₂ _ (two.match table pattern heading cut₁ spans₁ sets₁ a₁) (two.match table pattern heading cut₂ spans₂ sets₂ a₂)
          (cuts table pattern heading cut₁ spans₁ sets₁ cut₂ spans₂ sets₂ up a₁ a₂);
    }
