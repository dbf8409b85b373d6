-- What is said of one question asked of two tables, the second richer than the first: nothing is lost. Statements, over any two results; what a richer
-- table is stands in theory/specs/Table (`Richer`), and how a file is made richer in meaning/specs/Tables (`PairsKept`).
use Rattle.std.specs.Prelude.{◌≡◌, List, true, ℕ, ◌≤◌, ◌<◌}
use Rattle.theory.specs.Tree.{Term, Pattern, fill}
use Rattle.theory.specs.Table.{Table, degree, Matcher}
use Rattle.meaning.specs.Limits.{set_room, variable_count}
use Rattle.meaning.specs.File.{table_in}
use Rattle.meaning.specs.Calls.{gives, Degrees, highest_in, Matched}
use Rattle.meaning.specs.Buffers.{first_position_lem, position_count_lem, own_highest_lem, holds}
use Rattle.meaning.specs.Demands.{WritesTerm, WritesPattern, Only}
use Rattle.meaning.specs.Matching.{InSpan}
use Rattle.demands.specs.Demand3.{DrawnBy}

-- Every matcher under T is one under R, with a degree that is not lower.
abbrev pub MatchersStay : Table → Table → ℕ → Pattern → Term → Type 0
MatchersStay T R cut p h = (σ : ℕ → Term) → Matcher T cut p h σ → Matcher R cut p h σ × (degree T (fill σ p) h ≤ degree R (fill σ p) h)

-- What is left of an answer, r₁, where the same is asked of a richer table: r₂ is an answer too, whose highest degree is not lower. Each variable is
-- packed where it was, its own highest degree is not lower, its sets lose no symbol; so what could be drawn from the buffers can be drawn still. (Of
-- lowest degrees nothing is said: what now may stand there besides may be farther off.)
pub record StillAnswers (T R : Table) (p : Pattern) (r₁ r₂ : Matched) : Type 0 where
  pub answers : (d : Degrees) × (r₂.answer ≡ gives d)
  pub highest_not_lower : highest_in r₁.answer ≤ highest_in r₂.answer
  pub same_start : (v : ℕ) → v < variable_count → first_position_lem r₁.spans v ≡ first_position_lem r₂.spans v
  pub same_count : (v : ℕ) → v < variable_count → position_count_lem r₁.spans v ≡ position_count_lem r₂.spans v
  pub own_highest_not_lower : (v : ℕ) → v < variable_count → own_highest_lem r₁.spans v ≤ own_highest_lem r₂.spans v
  pub no_symbol_lost : (v : ℕ) → v < variable_count → (position : ℕ) → InSpan r₁.spans v position → (symbol : ℕ) → symbol < set_room
      → holds r₁.sets position symbol ≡ true → holds r₂.sets position symbol ≡ true
  pub drawn : (σ : ℕ → Term) → DrawnBy T p r₁ σ → DrawnBy R p r₂ σ

-- What is said of two such calls of which neither is refused for its input or its room: the lists write the same trees over both tables. (`matchers` names
-- neither result; `drawn` in `answered` says it of what the two calls left.)
pub record LosesNothing (table₁ table₂ pattern heading : List ℕ) (cut : ℕ) (r₁ r₂ : Matched) : Type 0 where
  pub p : Pattern
  pub h : Term
  pub writes_pattern₁ : Only (WritesPattern (table_in table₁) pattern) p
  pub writes_pattern₂ : Only (WritesPattern (table_in table₂) pattern) p
  pub writes_heading₁ : Only (WritesTerm (table_in table₁) heading) h
  pub writes_heading₂ : Only (WritesTerm (table_in table₂) heading) h
  pub matchers : MatchersStay (table_in table₁) (table_in table₂) cut p h
  pub answered : (d : Degrees) → r₁.answer ≡ gives d → StillAnswers (table_in table₁) (table_in table₂) p r₁ r₂
