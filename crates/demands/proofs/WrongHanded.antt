-- Wrong programs that fail at what is said of lists handed back: a nearer that always hands back the first candidate, a subterm that is a copy and lies
-- elsewhere, a subterm that is the whole list. The candidates 6 and 7 have degrees 500 and 700 with 5; the subterm of 1(5) at 1 is 5.
use mathlib.Core.Path.{◌≡◌, refl, sym as inv, ap, ◌∙◌}
use mathlib.Core.List.{List, [], ◌∷◌}
use mathlib.Core.Option.{none, some-injective}
use Prim.Native.Nat.{ℕ}
use native.Mathlib.Omega.{arith}
use lib.Dec.{lit<}
use lib.ListN.{length, get_or}
use Rattle.theory.specs.Tree.{Pattern, sym, ∅ₚ, ◌▸◌, encₚ}
use Rattle.theory.specs.Read.{walk, several}
use Rattle.meaning.specs.File.{arities_in, pairs_in, table_in}
use Rattle.meaning.specs.Refusals.{first, row1_short, row1_offsets, row2, row3, row4, row6, table_rows}
use Rattle.meaning.specs.Calls.{gives, heading_degree, subterm_rows}
use Rattle.meaning.specs.Demands.{WritesPattern}
use Rattle.meaning.proofs.Examples.{T}
use Rattle.headings.specs.Terms.{Nodes}
use Rattle.demands.specs.Program.{Program}
use Rattle.demands.specs.Further.{Further}
use Rattle.demands.proofs.Instances.{met_headings}

-- a list that was lent
abbrev lent : List ℕ → Nodes
lent list = record { ref_ptr = (1, 0); now = list }

-- THEOREM: always the first candidate: it fails where the second is nearer (`HandedBack.the_second`)
pub always_first_fails : (P : Program) → ((table one two : List ℕ) → P.heading_degree table one two ≡ heading_degree table one two)
    → ((table heading : List ℕ) (one two : Nodes) → P.nearer table heading one two ≡ one) → Further P → ⊥
always_first_fails P right w f =
    let one = lent (6 ∷ []) in
    let two = lent (7 ∷ []) in
    let d : P.heading_degree T (5 ∷ []) (6 ∷ []) ≡ gives 500 = right T (5 ∷ []) (6 ∷ []) ∙ met_headings.5 in
    let e : P.heading_degree T (5 ∷ []) (7 ∷ []) ≡ gives 700 = right T (5 ∷ []) (7 ∷ []) ∙ met_headings.6 in
    let q : one ≡ two = inv (w T (5 ∷ []) one two) ∙ f.handed_back.the_second T (5 ∷ []) one two 500 700 d e (lit< tt) in
    omega (arith, ap (λ r. get_or r.now 0 0) q)

-- ---- the subterm at 1

abbrev term : Nodes
term = lent (1 ∷ 5 ∷ [])

abbrev tree : Pattern
tree = sym 1 (sym 5 ∅ₚ ▸ ∅ₚ)

writes : WritesPattern (table_in T) term.now tree
unfolding table_in arities_in
writes = record { fine = (lit< tt, refl, ((lit< tt, refl, tt), tt)); is = refl }

taken : first (subterm_rows T term.now) ≡ none
unfolding subterm_rows table_rows row1_short row1_offsets row2 row3 row4 row6 table_in arities_in pairs_in walk several
taken = refl

-- THEOREM: a copy, in another block: it fails where the place is spoken of (`StandsFrom.block`)
pub copied_fails : (P : Program) → ((table : List ℕ) (list : Nodes) (i : ℕ) → (P.subterm table list i).ref_ptr.0 ≡ 0) → Further P → ⊥
copied_fails P w f = let s = f.handed_back.the_subterm T term 1 taken (lit< tt) tree writes in omega (arith, s.2.block, w T term 1)

-- THEOREM: the whole list: it fails where the nodes are spoken of (`StandsFrom.nodes`)
pub whole_fails : (P : Program) → ((table : List ℕ) (list : Nodes) (i : ℕ) → (P.subterm table list i).now ≡ list.now) → Further P → ⊥
whole_fails P w f =
    let s = f.handed_back.the_subterm T term 1 taken (lit< tt) tree writes in
    let q : sym 5 ∅ₚ ≡ s.0 = some-injective (sym 5 ∅ₚ) s.0 s.1 in
    omega (arith, ap length (w T term 1), ap length s.2.nodes, ap (λ x. length (encₚ x)) q)
