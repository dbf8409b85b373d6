-- What is said of terms and their parts: which lists are terms, the subterm at an index, the nearer of two. Statements; the proofs are in
-- proofs/Parts.
use Rattle.std.specs.Prelude.{◌≡◌, ◌↔◌, List, [], ◌∷◌, Bool, false, cond, ℕ, zero, suc, ◌-◌, ◌≤◌, ◌<◌, ltb, length, take, drop}
use Rattle.std.proofs.Math.Option.{Option, none, some as just}
use Rattle.theory.specs.Tree.{Term, Pattern, var, sym, Patterns, ∅ₚ, ◌▸◌, encₚ}
use Rattle.theory.specs.Table.{Table, degree}
use Rattle.theory.specs.Read.{Fine, depth}
use Rattle.meaning.specs.File.{table_in}
use Rattle.meaning.specs.Refusals.{first, Given, row6, row7}
use Rattle.meaning.specs.Calls.{Part, part, subterm_rows, Nearer, the_first, the_second_lem, neither, nearer_rows}
use Rattle.meaning.specs.Demands.{WritesTerm, WritesPattern, Only}

-- ---- which lists are terms

-- The list writes the pattern, which is not too long and not too deep.
pub record IsTerm (T : Table) (vars : Bool) (list : List ℕ) (p : Pattern) : Type 0 where
  pub fine : Fine T vars p
  pub depth_at_most : depth p ≤ 64
  pub nodes_at_most : length list ≤ 1024
  pub is : list ≡ encₚ p

-- A list is not refused by 6, by 7, exactly if it writes a pattern, a term without variables.
pub record TermLists (table : List ℕ) : Type 0 where
  pub six : (vars : Bool) (list : List ℕ) → first (row6 (table_in table) vars list ∷ []) ≡ none ↔ ((p : Pattern) × IsTerm (table_in table) vars list p)
  pub seven : (list : List ℕ) → first (row7 (table_in table) list ∷ []) ≡ none ↔ ((p : Pattern) × IsTerm (table_in table) false list p)

-- ---- the subterm at an index

-- The subterm at index i of a pattern, in preorder.
abbrev mutual
  pub subterm_at : Pattern → ℕ → Option Pattern
  subterm_at (var v) zero = just (var v)
  subterm_at (var v) (suc i) = none
  subterm_at (sym f ps) zero = just (sym f ps)
  subterm_at (sym f ps) (suc i) = subterm_in ps i

  pub subterm_in : Patterns → ℕ → Option Pattern
  subterm_in ∅ₚ i = none
  subterm_in (p ▸ ps) i = cond (ltb i (length (encₚ p))) (subterm_at p i) (subterm_in ps (i - length (encₚ p)))

-- The part handed back, of a term that is not refused and an index below its length, is where that subterm stands.
pub record SubtermIs (table term : List ℕ) (i : ℕ) (r : Part) : Type 0 where
  pub p : Pattern
  pub q : Pattern
  pub writes_term : Only (WritesPattern (table_in table) term) p
  pub subterm_is : subterm_at p i ≡ just q
  pub handed_back : r ≡ part i (length (encₚ q))
  pub holds_it : take (length (encₚ q)) (drop i term) ≡ encₚ q

pub record Subterms (subterm_of : (table term : List ℕ) (i : ℕ) → Part) : Type 0 where
  pub found : (table term : List ℕ) (i : ℕ) → first (subterm_rows table term) ≡ none → i < length term → SubtermIs table term i (subterm_of table term i)
  pub refused_part : (table term : List ℕ) (i n place : ℕ) → Given (subterm_rows table term) n place → subterm_of table term i ≡ part 0 0
  pub outside_part : (table term : List ℕ) (i : ℕ) → length term ≤ i → subterm_of table term i ≡ part 0 0

-- ---- the nearer of two

-- The nearer: the candidate with the higher degree, the first at equal degree; neither exactly if something is refused.
pub record NearerIs (table heading one two : List ℕ) (r : Nearer) : Type 0 where
  pub h : Term
  pub t : Term
  pub u : Term
  pub writes_heading : Only (WritesTerm (table_in table) heading) h
  pub writes_one : Only (WritesTerm (table_in table) one) t
  pub writes_two : Only (WritesTerm (table_in table) two) u
  pub first_one : r ≡ the_first ↔ (degree (table_in table) h u ≤ degree (table_in table) h t)
  pub second_one : r ≡ the_second_lem ↔ (degree (table_in table) h t < degree (table_in table) h u)

pub record Nearest (nearer_of : (table heading one two : List ℕ) → Nearer) : Type 0 where
  pub found : (table heading one two : List ℕ) → first (nearer_rows table heading one two) ≡ none → NearerIs table heading one two (nearer_of table heading one two)
  pub neither_if : (table heading one two : List ℕ) → nearer_of table heading one two ≡ neither ↔ ((n : ℕ) × (place : ℕ) × Given (nearer_rows table heading one two) n place)
