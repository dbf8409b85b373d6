-- What is said of degree 1000 and of a match at cut 1000: there only the same will do, nothing that is near. Statements, over any result; the proofs are in
-- proofs/TopCut.
use Rattle.std.specs.Prelude.{◌≡◌, ◌↔◌, List, true, ℕ, ◌+◌, ◌<◌}
use Rattle.theory.specs.Tree.{Term, Pattern, fill, stands}
use Rattle.theory.specs.Table.{Table, Over, Matcher}
use Rattle.theory.specs.Least.{All}
use Rattle.theory.specs.Match.{FirstUnlike}
use Rattle.meaning.specs.Limits.{set_room}
use Rattle.meaning.specs.File.{table_in}
use Rattle.meaning.specs.Calls.{refused, gives, Degrees, degrees, Matched}
use Rattle.meaning.specs.Buffers.{first_position_lem, position_count_lem, holds, DrawnFrom}
use Rattle.meaning.specs.Demands.{NoMatch}

-- The matchers over this table at cut 1000 are the substitutions that make the pattern the heading itself.
abbrev pub MatchersMakeIt : List ℕ → Type 0
MatchersMakeIt table = (p : Pattern) (h : Term) → Over (table_in table) h → (σ : ℕ → Term) → Matcher (table_in table) 1000 p h σ ↔ (fill σ p ≡ h)

-- The list has no variable: their nodes begin at 32768.
abbrev pub NoVariable : List ℕ → Type 0
NoVariable = All (λ node. node < 32768)

-- A pattern without variables matches its equal alone; with any other heading it is refused by 9 where the two lists first differ.
pub record EqualAlone (pattern heading : List ℕ) (r : Matched) : Type 0 where
  pub equal : pattern ≡ heading → r.answer ≡ gives (degrees 1000 1000)
  pub other : (pattern ≡ heading → ⊥) → (place : ℕ) × (r.answer ≡ refused 9 place) × FirstUnlike pattern heading place

-- What an answered match gives: both degrees are 1000, what is drawn from the buffers makes the pattern the heading, and nothing else does; so each
-- set has one symbol.
pub record OnlyTheSame (T : Table) (p : Pattern) (h : Term) (r : Matched) (d : Degrees) : Type 0 where
  pub both_top : d ≡ degrees 1000 1000
  pub drawn : (σ : ℕ → Term) → ((v : ℕ) → stands v p ≡ true → DrawnFrom T r.spans r.sets v (σ v)) ↔ (fill σ p ≡ h)
  pub one_symbol : (v : ℕ) → stands v p ≡ true → (k : ℕ) → k < position_count_lem r.spans v
      → (s : ℕ) × (s < set_room) × ((x : ℕ) → x < set_room → holds r.sets (first_position_lem r.spans v + k) x ≡ true ↔ (x ≡ s))

-- Of a match at cut 1000 that is not refused for its input or its room, of a list that writes p and one that writes h.
pub record AtTopCut (T : Table) (p : Pattern) (h : Term) (pattern heading : List ℕ) (r : Matched) : Type 0 where
  pub ground : NoVariable pattern → EqualAlone pattern heading r
  pub no_match : NoMatch r ↔ ((σ : ℕ → Term) → fill σ p ≡ h → ⊥)
  pub answered : (d : Degrees) → r.answer ≡ gives d → OnlyTheSame T p h r d
