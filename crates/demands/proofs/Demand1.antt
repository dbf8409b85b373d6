-- Demand 1 holds of the meaning's program: each call there answers unless a row refuses, so the law of `first` says when; and what is left in lent
-- memory is chosen by the refusal's number. An empty list is handed back only there, since what writes a tree has a node.
use mathlib.Core.Path.{◌≡◌, refl, sym as inv, ap, ◌∙◌, subst}
use mathlib.Core.Logic.{◌↔◌, ◌⊎◌, inl, inr}
use mathlib.Core.List.{List, []}
use mathlib.Core.Option.{Option, none, some as just, some-ne-none}
use Prim.Native.Nat.{ℕ, ◌≤◌, ◌<◌}
use native.Mathlib.Decide.{dec_lt}
use native.Mathlib.Omega.{arith}
use lib.ListN.{length}
use Rattle.theory.specs.Tree.{Term, node, Pattern, var, sym, enc, encₚ}
use Rattle.meaning.specs.Refusals.{Refusal, refusal, first}
use Rattle.meaning.specs.Calls.{is_table_lem, symbol_degree_lem, heading_degree, part, subterm_rows, subterm, Nearer as Which, the_first, the_second_lem, neither, nearer_rows, nearer, matched, written, arity_back, pair_back}
use Rattle.meaning.specs.Saved.{widened_count}
use Rattle.meaning.specs.Parts.{SubtermIs, NearerIs}
use Rattle.meaning.proofs.First.{first_given, given_first, exactly}
use Rattle.meaning.proofs.Parts.{subterms, nearest}
use Rattle.meaning.proofs.Lengths.{leaves, lengths}
use Rattle.meaning.proofs.RoundTrip.{round_trip}
use Rattle.meaning.proofs.Saved.{widens}
use Rattle.marc.specs.Heading.{headed}
use Rattle.marc.proofs.Headings.{heading_leaves}
use Rattle.headings.specs.Terms.{Nodes, PartOf, IsPart, Subterm, IsChosen, Nearer}
use Rattle.demands.specs.Handed.{EmptyAt}
use Rattle.demands.specs.Demand1.{Refuses, Demand1}
use Rattle.demands.proofs.Meant.{Handing, HandsBack, meant}

-- ---- the empty part

-- what writes a tree has a node
some_node : (q : Pattern) → encₚ q ≡ [] → ⊥
some_node (var v) e = omega (arith, ap length e)
some_node (sym f ps) e = omega (arith, ap length e)

some_symbol : (t : Term) → enc t ≡ [] → ⊥
some_symbol (node f ts) e = omega (arith, ap length e)

empty_at : (list r : Nodes) → PartOf list r 0 0 → EmptyAt list r
empty_at list r p = record { no_nodes = p.holds; block = p.block; offset = omega (arith, p.offset) }

module _ (table : List ℕ) (term : Nodes) (i : ℕ) (r : Nodes) (k : Subterm table term i r) where
  -- where the meaning has the empty part, and where it has a subterm's
  empty : subterm table term.now i ≡ part 0 0 → EmptyAt term r
  empty e = empty_at term r (subst (IsPart term r) e k)

  not_empty : SubtermIs table term.now i (subterm table term.now i) → EmptyAt term r → ⊥
  not_empty s x =
      let p : PartOf term r i (length (encₚ s.q)) = subst (IsPart term r) s.handed_back k in
      some_node s.q (inv s.holds_it ∙ inv p.holds ∙ x.no_nodes)

  empty_part : EmptyAt term r ↔ (Refuses (subterm_rows table term.now) ⊎ (length term.now ≤ i))
  empty_part = ((λ x. go (first (subterm_rows table term.now)) refl (dec_lt i (length term.now)) x), back)
    where
      go : (o : Option Refusal) → first (subterm_rows table term.now) ≡ o → Dec (i < length term.now) → EmptyAt term r
          → Refuses (subterm_rows table term.now) ⊎ (length term.now ≤ i)
      go (just (refusal n place)) q d x = inl (n, place, first_given (subterm_rows table term.now) n place q)
      go none q (no m) x = inr (omega arith)
      go none q (yes m) x = absurd (not_empty (subterms.found table term.now i q m) x)

      back : Refuses (subterm_rows table term.now) ⊎ (length term.now ≤ i) → EmptyAt term r
      back (inl g) = empty (subterms.refused_part table term.now i g.0 g.1 g.2)
      back (inr l) = empty (subterms.outside_part table term.now i l)

module _ (table heading : List ℕ) (one two r : Nodes) (k : Nearer table heading one two r) where
  -- a candidate that was chosen has a node
  not_empty_one : NearerIs table heading one.now two.now (nearer table heading one.now two.now) → (which : Which) → (which ≡ neither → ⊥)
      → IsChosen one two r which → EmptyAt one r → ⊥
  not_empty_one s the_first n c x = some_symbol s.t (inv s.writes_one.holds.is ∙ ap (λ x. x.now) (inv c) ∙ x.no_nodes)
  not_empty_one s the_second_lem n c x = some_symbol s.u (inv s.writes_two.holds.is ∙ ap (λ x. x.now) (inv c) ∙ x.no_nodes)
  not_empty_one s neither n c x = n refl

  none_refused : first (nearer_rows table heading one.now two.now) ≡ none → nearer table heading one.now two.now ≡ neither → ⊥
  none_refused q e =
      let g = (nearest.neither_if table heading one.now two.now).0 e in
      some-ne-none (refusal g.0 g.1) (inv (given_first (nearer_rows table heading one.now two.now) g.0 g.1 g.2) ∙ q)

  empty_choice : EmptyAt one r ↔ Refuses (nearer_rows table heading one.now two.now)
  empty_choice = (
    (λ x. go (first (nearer_rows table heading one.now two.now)) refl x),
    (λ g. empty_at one r (subst (IsChosen one two r) ((nearest.neither_if table heading one.now two.now).1 g) k)),
  )
    where
      go : (o : Option Refusal) → first (nearer_rows table heading one.now two.now) ≡ o → EmptyAt one r → Refuses (nearer_rows table heading one.now two.now)
      go (just (refusal n place)) q x = (n, place, first_given (nearer_rows table heading one.now two.now) n place q)
      go none q x = absurd (not_empty_one (nearest.found table heading one.now two.now q) (nearer table heading one.now two.now) (none_refused q) k x)

-- THEOREM
pub demand1 : (H : Handing) → HandsBack H → Demand1 (meant H)
unfolding is_table_lem symbol_degree_lem heading_degree matched written arity_back pair_back widened_count headed
demand1 H k =
    record {
      is_table_lem-is = λ table. exactly _ _;
      symbol_degree_lem-is = λ table a b. exactly _ _;
      heading_degree_lem = λ table one two. exactly _ _;
      match = λ table pattern heading cut spans sets. exactly _ _;
      write_table_lem-is = λ arities pairs output. exactly _ _;
      arity_of_lem-is = λ table symbol. exactly _ _;
      pair_of_lem = λ table index. exactly _ _;
      widen = λ words output. exactly _ _;
      marc_heading_lem = λ bytes text ends numbers heading absent nodes. exactly _ _;
      subterm = λ table term i. empty_part table term i _ (k.subterm table term i);
      nearer = λ table heading one two. empty_choice table heading one two _ (k.nearer table heading one two);
      match_leaves = leaves;
      writer_leaves = λ arities pairs output. (round_trip.read_written arities pairs output).refusal_leaves;
      widen_leaves = λ words output. (widens words output).refusal_leaves;
      heading_leaves = λ bytes text ends numbers. heading_leaves bytes _;
      lengths = lengths;
    }
