-- What a match comes to, as one function of the table, the cut, the pattern and the heading; and what each verdict has to mean.
use Rattle.std.specs.Prelude.{◌≡◌, ◌↔◌, Bool, true, ◌&&◌, not, ℕ, ◌<◌}
use Rattle.std.proofs.Math.Option.{Option, none, some as just}
use Rattle.theory.specs.Tree.{Term, Pattern, stands}
use Rattle.theory.specs.Table.{Table, Over, Matcher}
use Rattle.theory.specs.Least.{least_below}
use Rattle.theory.specs.Faces.{faces, facing}
use Rattle.theory.specs.Match.{clash, formed, lowest_of_lem, highest_of, ClashAt, Reaches, DrawnAll, IsLowest, IsHighest}

-- A clash and its place (refusal 9), a variable without a form (refusal 10), or the lowest and the highest degree.
pub data Verdict : Type 0 where
  clashes : ℕ → Verdict
  formless : ℕ → Verdict
  answers : ℕ → ℕ → Verdict

-- a clash comes first, then a variable without a form
abbrev pub settled : Option ℕ → Option ℕ → ℕ → ℕ → Verdict
settled (just i) v low high = clashes i
settled none (just v) low high = formless v
settled none none low high = answers low high

module _ (T : Table) (c : ℕ) (p : Pattern) (h : Term) where
  -- variable v stands in the pattern and has no form
  abbrev pub lacking : ℕ → Bool
  lacking v = stands v p && not (formed T c (facing v (faces p h)))

  unfoldable pub verdict : Verdict
  verdict = settled (clash T c (faces p h)) (least_below 32 lacking) (lowest_of_lem T c (faces p h)) (highest_of T c (faces p h))

  -- some ground term over the table reaches the cut with every subterm that faces v
  abbrev pub HasForm : ℕ → Type 0
  HasForm v = (u : Term) × Over T u × Reaches T c (facing v (faces p h)) u

  abbrev pub NoMatcher : Type 0
  NoMatcher = (σ : ℕ → Term) → Matcher T c p h σ → ⊥

  -- What a verdict has to mean.
  pub record MeansFormless (v : ℕ) : Type 0 where
    pub clear : clash T c (faces p h) ≡ none
    pub standing : stands v p ≡ true
    pub lacks : HasForm v → ⊥
    pub least : (w : ℕ) → w < v → stands w p ≡ true → HasForm w
    pub no_matcher : NoMatcher

  pub record MeansMatch (low high : ℕ) : Type 0 where
    pub lowest : IsLowest T c p h low
    pub highest : IsHighest T c p h high
    pub matchers : (σ : ℕ → Term) → Matcher T c p h σ ↔ DrawnAll T c p h σ

  abbrev pub Means : Verdict → Type 0
  Means (clashes i) = ClashAt T c (faces p h) i × NoMatcher
  Means (formless v) = MeansFormless v
  Means (answers low high) = MeansMatch low high
