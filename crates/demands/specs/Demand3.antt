-- Demand 3: of two cuts, the second not lower than the first, with neither call refused for its input or its room. The matchers at the second are
-- those at the first whose own degree reaches the second; the second call answers exactly if the first does with a highest degree that reaches
-- the second cut; then its sets lie inside the first's, position by position, and its highest degree is the same. Each call may be lent buffers
-- of its own.
--
-- `CutsOf` says that of two results, over the trees that the lists write (meaning/specs/Demands). Its sentence on matchers names neither result, so
-- `DrawnOf` says it again of what the two calls left.
use Rattle.std.specs.Prelude.{◌≡◌, ◌↔◌, List, true, ℕ, ◌≤◌}
use Rattle.theory.specs.Tree.{Term, Pattern, fill, stands}
use Rattle.theory.specs.Table.{Table, degree}
use Rattle.meaning.specs.File.{table_in}
use Rattle.meaning.specs.Calls.{gives, Degrees, Matched}
use Rattle.meaning.specs.Buffers.{DrawnFrom}
use Rattle.meaning.specs.Demands.{WritesTerm, WritesPattern, Accepted, Demand3 as CutsOf}
use Rattle.demands.specs.Program.{Program}

-- Every variable of the pattern is given a term that is drawn from the result's buffers.
abbrev pub DrawnBy : Table → Pattern → Matched → (ℕ → Term) → Type 0
DrawnBy T p r σ = (v : ℕ) → stands v p ≡ true → DrawnFrom T r.spans r.sets v (σ v)

-- Once the second call answers, what can be drawn from its buffers is what can be drawn from the first's and has a degree of its own that reaches the
-- second cut.
abbrev pub DrawnOf : (table pattern heading : List ℕ) (cut₁ : ℕ) (r₁ : Matched) (cut₂ : ℕ) (r₂ : Matched) → Type 0
DrawnOf table pattern heading cut₁ r₁ cut₂ r₂ = let T = table_in table in
    (p : Pattern) → WritesPattern T pattern p → (h : Term) → WritesTerm T heading h → (d : Degrees) → r₂.answer ≡ gives d
    → (σ : ℕ → Term) → DrawnBy T p r₂ σ ↔ (DrawnBy T p r₁ σ × (cut₂ ≤ degree T (fill σ p) h))

-- So much is said of any two such calls.
abbrev pub OfTwoCuts : Program → ((table pattern heading : List ℕ) (cut₁ : ℕ) (r₁ : Matched) (cut₂ : ℕ) (r₂ : Matched) → Type 0) → Type 0
OfTwoCuts P Says = (table pattern heading : List ℕ) (cut₁ : ℕ) (spans₁ sets₁ : List ℕ) (cut₂ : ℕ) (spans₂ sets₂ : List ℕ) → cut₁ ≤ cut₂
    → Accepted table pattern heading cut₁ spans₁ sets₁ → Accepted table pattern heading cut₂ spans₂ sets₂
    → Says table pattern heading cut₁ (P.match table pattern heading cut₁ spans₁ sets₁) cut₂ (P.match table pattern heading cut₂ spans₂ sets₂)

pub record Demand3 (P : Program) : Type 0 where
  pub cuts : OfTwoCuts P CutsOf
  pub drawn : OfTwoCuts P DrawnOf
