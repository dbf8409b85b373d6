-- What an answered match says of its variables in the spans: the numbers of a variable are what was packed for it, zeros for one that does not stand in
-- the pattern; where nothing clashes the order of packing is that of the pattern, and the last two numbers are the variable's own degrees.
use mathlib.Core.Path.{◌≡◌, refl, sym as inv, ap, ap₂, ◌∙◌, subst}
use mathlib.Core.List.{List, [], ◌∷◌}
use mathlib.Core.Bool.{Bool, true, false, cond}
use mathlib.Core.Option.{none}
use Prim.Native.Nat.{ℕ, ◌+◌, ◌*◌, ◌-◌, ◌<◌}
use native.Mathlib.Omega.{arith}
use lib.Dec.{eqb}
use lib.ListN.{length, get_or}
use borrow.Author.Tests.{eq-eqb}
use Rattle.theory.specs.Tree.{Term, Pattern, stands}
use Rattle.theory.specs.Table.{Table, Overₚ}
use Rattle.theory.specs.Least.{All}
use Rattle.theory.specs.Faces.{Face, faces, facing}
use Rattle.theory.specs.Match.{lowest_for, highest_for, lowest_of_lem, highest_of, Matches}
use Rattle.theory.specs.Decode.{pattern_of, term_of}
use Rattle.theory.proofs.Decoding.{fine_over}
use Rattle.theory.proofs.Matchers.{Clear, none_clear}
use Rattle.theory.proofs.Present.{present}
use Rattle.theory.proofs.Verdict.{stands_small}
use Rattle.meaning.specs.Limits.{variable_count, span_width}
use Rattle.meaning.specs.File.{table_in}
use Rattle.meaning.specs.Refusals.{first}
use Rattle.meaning.specs.Packing.{firsts, order, count_of, start_in, among, span_in, packed_spans}
use Rattle.meaning.specs.Calls.{gives, Degrees, degrees, zeros, faces_in, input_rows, search_rows, match_rows, matched, later_spans, match_call}
use Rattle.meaning.specs.Buffers.{first_position_lem, position_count_lem, own_lowest_lem, own_highest_lem}
use Rattle.meaning.specs.Demands.{Accepted}
use Rattle.meaning.specs.Matching.{standing, VariableDegrees, PackedInOrder}
use Rattle.meaning.proofs.First.{append-none, unless_gives}
use Rattle.meaning.proofs.Packing.{order-among, span_at}
use Rattle.meaning.proofs.Standing.{absent_order, packed_stands, variables_standing}
use Rattle.meaning.proofs.Matched.{Ready, ready, given_none, match_ends, spans_are}
use Rattle.meaning.proofs.Own.{degrees_read}

-- ---- starts by counts that agree

-- LAW: what is among some is among one more
pub among_more : (w x : ℕ) (xs : List ℕ) → among w xs ≡ true → among w (x ∷ xs) ≡ true
among_more w x xs m = go (eqb w x)
  where
    go : (b : Bool) → cond b true (among w xs) ≡ true
    go true = refl
    go false = m

start_counts : (f g : ℕ → ℕ) (v : ℕ) (ws : List ℕ) → ((w : ℕ) → among w ws ≡ true → f w ≡ g w) → start_in f v ws ≡ start_in g v ws
start_counts f g v [] e = refl
start_counts f g v (x ∷ xs) e =
    ap₂ (λ a b. cond (eqb v x) 0 (a + b)) (e x (rw (eq-eqb x x refl))) (start_counts f g v xs (λ w m. e w (among_more w x xs m)))

module _ (table pattern heading : List ℕ) (cut : ℕ) (spans sets : List ℕ) where
  abbrev T : Table
  T = table_in table

  abbrev p : Pattern
  p = pattern_of (table_in table) pattern

  abbrev h : Term
  h = term_of (table_in table) heading

  abbrev fs : List Face
  fs = faces (pattern_of (table_in table) pattern) (term_of (table_in table) heading)

  abbrev left : List ℕ
  left = later_spans table pattern heading cut spans sets

  -- an answered match is refused by no row
  pub answered_none : (d : Degrees) → matched table pattern heading cut spans sets ≡ gives d → first (match_rows table pattern heading cut spans sets) ≡ none
  unfolding matched
  answered_none d e = (unless_gives (first (match_rows table pattern heading cut spans sets)) _ d e).0

  module _ (e : first (match_rows table pattern heading cut spans sets) ≡ none) where
    pub accepted : Accepted table pattern heading cut spans sets
    unfolding match_rows
    accepted = (append-none (input_rows table pattern heading cut spans sets) (search_rows table pattern heading cut) e).0

    r : Ready table pattern heading cut
    r = ready table pattern heading cut spans sets accepted

    -- the numbers of a variable
    number_read : (v j : ℕ) → v < variable_count → j < span_width → get_or left (span_width * v + j) 0 ≡ get_or (span_in T cut fs (order fs) v) j 0
    number_read v j l m = rw (spans_are table pattern heading cut spans sets e) (span_at T cut fs (zeros (length spans - length (packed_spans T cut fs))) v j l m)

    first_read : (v : ℕ) → v < variable_count → first_position_lem left v ≡ get_or (span_in T cut fs (order fs) v) 0 0
    first_read v l = let z : span_width * v ≡ span_width * v + 0 = omega arith in ap (λ i. get_or left i 0) z ∙ number_read v 0 l (omega arith)

    pub packed_small : (v : ℕ) → among v (order fs) ≡ true → v < variable_count
    packed_small v m = stands_small T v p r.pattern_is.holds.fine (packed_stands v p h m)

    -- LAW: of a variable that is packed
    pub packed_read : (v : ℕ) → among v (order fs) ≡ true → (first_position_lem left v ≡ start_in (count_of fs) v (order fs)) × (position_count_lem left v ≡ count_of fs v)
    packed_read v m =
        let l = packed_small v m in
        (first_read v l ∙ rw m, number_read v 1 l (omega arith) ∙ rw m)

    own_read : (v : ℕ) → among v (order fs) ≡ true → (own_lowest_lem left v ≡ lowest_for T cut (facing v fs)) × (own_highest_lem left v ≡ highest_for T cut (facing v fs))
    own_read v m =
        let l = packed_small v m in
        (number_read v 2 l (omega arith) ∙ rw m, number_read v 3 l (omega arith) ∙ rw m)

    absent : (v : ℕ) → v < variable_count → stands v p ≡ false → (first_position_lem left v ≡ 0) × (position_count_lem left v ≡ 0) × (own_lowest_lem left v ≡ 0) × (own_highest_lem left v ≡ 0)
    absent v l s =
        let m = absent_order v p h s in
        (first_read v l ∙ rw m, number_read v 1 l (omega arith) ∙ rw m, number_read v 2 l (omega arith) ∙ rw m, number_read v 3 l (omega arith) ∙ rw m)

    op : Overₚ T p
    op = fine_over T true p r.pattern_is.holds.fine

    found : Matches T cut p h
    found = (given_none _ _ _ (match_ends table pattern heading cut spans sets accepted r) e).0

    clear : All (Clear T cut) fs
    clear = none_clear T cut fs found.clear

    stands_packed : (v : ℕ) → stands v p ≡ true → among v (order fs) ≡ true
    stands_packed v s = order-among v fs (present T r.lawful cut r.positive v p h op r.heading_is.holds.over clear s)

    -- LAW: the variable that the pattern has first is packed first, and so on
    pub in_order : order fs ≡ firsts (standing p)
    in_order = ap firsts (variables_standing T r.lawful cut r.positive p h op r.heading_is.holds.over clear)

    starts : (v : ℕ) → stands v p ≡ true → first_position_lem left v ≡ start_in (position_count_lem left) v (firsts (standing p))
    starts v s =
        (packed_read v (stands_packed v s)).0
        ∙ start_counts (count_of fs) (position_count_lem left) v (order fs) (λ w m. inv (packed_read w m).1)
        ∙ ap (start_in (position_count_lem left) v) in_order

    -- THEOREM: where an answered match packs its variables
    pub packed_in_order : PackedInOrder p (match_call table pattern heading cut spans sets)
    packed_in_order = record { absent = absent; starts = starts }

    -- its degrees are the least of what its nodes bring, and those of each variable are as one reads them
    own_degrees : VariableDegrees T cut p h (match_call table pattern heading cut spans sets) (lowest_of_lem T cut fs) (highest_of T cut fs)
    own_degrees = degrees_read T r.lawful p h op r.heading_is.holds.over cut r.positive r.cut_top found _ (λ v s. own_read v (stands_packed v s))

  -- THEOREM: the degrees of each variable of an answered match
  pub variable_degrees : (low high : ℕ) → matched table pattern heading cut spans sets ≡ gives (degrees low high)
      → VariableDegrees T cut p h (match_call table pattern heading cut spans sets) low high
  unfolding matched faces_in
  variable_degrees low high g =
      let u = unless_gives (first (match_rows table pattern heading cut spans sets)) (degrees (lowest_of_lem T cut fs) (highest_of T cut fs)) (degrees low high) g in
      let same : (lowest_of_lem T cut fs ≡ low) × (highest_of T cut fs ≡ high) = let q = u.1 in (cc, cc) in
      subst (λ n. VariableDegrees T cut p h (match_call table pattern heading cut spans sets) low n) same.1
      (subst (λ n. VariableDegrees T cut p h (match_call table pattern heading cut spans sets) n (highest_of T cut fs)) same.0 (own_degrees u.0))
