-- What else is said of the match: why it is refused, what its sets hold, each variable's own degrees, where its variables are packed, what it leaves
-- in lent memory.
-- Statements; the proofs are in proofs/Reasons, proofs/Sentences, proofs/Own, proofs/Spans, proofs/NoOverlap and proofs/Lengths.
use Rattle.std.specs.Prelude.{◌≡◌, ◌↔◌, List, [], ◌∷◌, ◌++◌, true, false, ℕ, ◌+◌, ◌*◌, ◌/◌, ◌^◌, ◌≤◌, ◌<◌, length, get_or}
use Rattle.theory.specs.Tree.{Term, Pattern, var, sym, Patterns, ∅ₚ, ◌▸◌, enc, stands}
use Rattle.theory.specs.Least.{All, least}
use Rattle.theory.specs.Table.{Table}
use Rattle.theory.specs.Faces.{faces, facing, taken}
use Rattle.theory.specs.Match.{size, at, brings, ClashAt, IsLowestFor, IsHighestFor}
use Rattle.theory.specs.Verdict.{MeansFormless}
use Rattle.theory.specs.Pairs.{Pair}
use Rattle.meaning.specs.Limits.{word_bits, set_words_lem, set_room, variable_count, span_width}
use Rattle.meaning.specs.Packing.{firsts, sum, start_in}
use Rattle.meaning.specs.Calls.{refused, gives, Degrees, zeros, Matched}
use Rattle.meaning.specs.Buffers.{first_position_lem, position_count_lem, own_lowest_lem, own_highest_lem, holds}
use Rattle.meaning.specs.Tables.{Wrote}

-- Refusals 9 and 10, of a match that is not refused by 1 to 8.
-- 9: the place is an index of the pattern's list, that of the first clash.
pub record Clashes (T : Table) (cut : ℕ) (p : Pattern) (h : Term) (pattern : List ℕ) (i : ℕ) : Type 0 where
  pub clash : ClashAt T cut (faces p h) i
  pub index : i < length pattern
  pub node : get_or pattern i 0 ≡ clash.pattern

pub record Reasons (T : Table) (cut : ℕ) (p : Pattern) (h : Term) (pattern : List ℕ) (r : Matched) : Type 0 where
  pub nine : (i : ℕ) → r.answer ≡ refused 9 i → Clashes T cut p h pattern i
  pub ten : (v : ℕ) → r.answer ≡ refused 10 v → MeansFormless T cut p h v

-- Of a match that is answered: the set at a variable's position k has just those symbols that are near enough to what every subterm facing the
-- variable has at k; and how the degrees lie.
pub record SetsAndDegrees (T : Table) (cut : ℕ) (p : Pattern) (h : Term) (r : Matched) (low high : ℕ) : Type 0 where
  pub sets : (v : ℕ) → stands v p ≡ true → (k : ℕ) → k < position_count_lem r.spans v → (s : ℕ) → s < set_room
      → holds r.sets (first_position_lem r.spans v + k) s ≡ true ↔ ((s < T.size) × All (λ t. cut ≤ T.deg s (at T t k)) (facing v (faces p h)))
  pub cut_lowest : cut ≤ low
  pub lowest-highest : low ≤ high
  pub highest_top : high ≤ 1000
  pub no_variables : ((v : ℕ) → stands v p ≡ false) → low ≡ high

-- Each variable's own degrees in an answered match, as one reads them in the spans: what some matcher gives to the variable reaches them, and they
-- bound what any gives. Together with the degrees of the symbols that face one another they make the match's: each of the two is the least of all.
pub record VariableDegrees (T : Table) (cut : ℕ) (p : Pattern) (h : Term) (r : Matched) (low high : ℕ) : Type 0 where
  pub own_lowest_lem-is : (v : ℕ) → stands v p ≡ true → IsLowestFor T cut p h v (own_lowest_lem r.spans v)
  pub own_highest_lem-is : (v : ℕ) → stands v p ≡ true → IsHighestFor T cut p h v (own_highest_lem r.spans v)
  pub least-lowest : low ≡ least (brings T (own_lowest_lem r.spans)) (faces p h)
  pub least-highest : high ≡ least (brings T (own_highest_lem r.spans)) (faces p h)

-- The variables of a pattern, in preorder, as often as they stand there.
abbrev mutual
  pub standing : Pattern → List ℕ
  standing (var v) = v ∷ []
  standing (sym f ps) = standings ps

  pub standings : Patterns → List ℕ
  standings ∅ₚ = []
  standings (p ▸ ps) = standing p ++ standings ps

-- Where an answered match has packed its variables: one that does not stand in the pattern has four zeros; each of the others begins where those end
-- that the pattern has before it.
pub record PackedInOrder (p : Pattern) (r : Matched) : Type 0 where
  pub absent : (v : ℕ) → v < variable_count → stands v p ≡ false
      → (first_position_lem r.spans v ≡ 0) × (position_count_lem r.spans v ≡ 0) × (own_lowest_lem r.spans v ≡ 0) × (own_highest_lem r.spans v ≡ 0)
  pub starts : (v : ℕ) → stands v p ≡ true → first_position_lem r.spans v ≡ start_in (position_count_lem r.spans) v (firsts (standing p))

-- Unless a symbol clashes, what faces the pattern's nodes is the heading, one behind the other: subterms that face different nodes never overlap. So
-- what an answered match has packed fits: its variables, each counted once in the spans, have no more positions than the heading has nodes.
pub record NoOverlap (p : Pattern) (h : Term) (r : Matched) : Type 0 where
  pub apart : ((i : ℕ) → r.answer ≡ refused 9 i → ⊥) → taken (faces p h) ≡ enc h
  pub fits : (d : Degrees) → r.answer ≡ gives d → sum (position_count_lem r.spans) (firsts (standing p)) ≤ size h

-- The position is one of variable v's.
abbrev pub InSpan : List ℕ → ℕ → ℕ → Type 0
InSpan spans v position = (first_position_lem spans v ≤ position) × (position < first_position_lem spans v + position_count_lem spans v)

-- What a match leaves in the two buffers: what was lent, where its input or the room is refused; zeros, where the search is; and where it is
-- answered, zeros past the spans, zeros in every word that is at no variable's position, and in the others no more than a word's bits.
pub record Leaves (spans sets : List ℕ) (r : Matched) : Type 0 where
  pub unchanged : (n place : ℕ) → r.answer ≡ refused n place → n ≤ 8 → (r.spans ≡ spans) × (r.sets ≡ sets)
  pub cleared : (n place : ℕ) → r.answer ≡ refused n place → 8 < n → (r.spans ≡ zeros (length spans)) × (r.sets ≡ zeros (length sets))
  pub other_spans : (d : Degrees) → r.answer ≡ gives d → (i : ℕ) → span_width * variable_count ≤ i → get_or r.spans i 0 ≡ 0
  pub other_sets : (d : Degrees) → r.answer ≡ gives d → (i : ℕ) → ((v : ℕ) → v < variable_count → InSpan r.spans v (i / set_words_lem) → ⊥)
      → get_or r.sets i 0 ≡ 0
  pub words_fit : (d : Degrees) → r.answer ≡ gives d → (i : ℕ) → get_or r.sets i 0 < 2 ^ word_bits

-- Lent memory keeps its length, whatever is lent.
pub record Lengths (match : (table pattern heading : List ℕ) (cut : ℕ) (spans sets : List ℕ) → Matched) (write : List ℕ → List Pair → List ℕ → Wrote) : Type 0 where
  pub of_spans : (table pattern heading : List ℕ) (cut : ℕ) (spans sets : List ℕ) → length (match table pattern heading cut spans sets).spans ≡ length spans
  pub of_sets : (table pattern heading : List ℕ) (cut : ℕ) (spans sets : List ℕ) → length (match table pattern heading cut spans sets).sets ≡ length sets
  pub of_output : (arities : List ℕ) (pairs : List Pair) (output : List ℕ) → length (write arities pairs output).output ≡ length output
