-- What the statements leave open of a heading read from a record: nothing. Where a row refuses, the output stays; where none does, the nodes are those of
-- the one heading that the record has, in front of what stays.
use mathlib.Core.Path.{◌≡◌, refl, sym as inv, ap, ◌∙◌}
use mathlib.Core.List.{List, ◌++◌}
use mathlib.Core.Option.{Option, none, some as just}
use Prim.Native.Nat.{ℕ}
use lib.ListN.{drop}
use Rattle.meaning.specs.Refusals.{Refusal, refusal, first}
use Rattle.meaning.specs.Calls.{gives, Yes, aye}
use Rattle.marc.specs.Known.{Known, known_in}
use Rattle.marc.specs.Heading.{HeadedBy, heading_rows}
use Rattle.marc.proofs.OneHeads.{one_heads}
use Rattle.demands.specs.Program.{Program}
use Rattle.demands.specs.Demand1.{Demand1}
use Rattle.demands.specs.Further.{Further}
use Rattle.demands.proofs.Exact.{by_refusal, by_none, same_answer}

only_yes : (a : Yes) → a ≡ aye
only_yes aye = refl

module _ (P Q : Program) (one : Demand1 P) (one' : Demand1 Q) (more : Further P) (more' : Further Q) (bytes text ends numbers : List ℕ) (heading absent : ℕ) (nodes : List ℕ) where
  abbrev r : HeadedBy
  r = P.marc_heading bytes text ends numbers heading absent nodes

  abbrev s : HeadedBy
  s = Q.marc_heading bytes text ends numbers heading absent nodes

  abbrev ks : List Known
  ks = known_in text ends numbers

  -- where no row holds, the answer is yes
  answered : (R : Program) → Demand1 R → first (heading_rows bytes ks heading absent nodes) ≡ none → (R.marc_heading bytes text ends numbers heading absent nodes).answer ≡ gives aye
  answered R d q = let g = by_none (heading_rows bytes ks heading absent nodes) _ (d.marc_heading_lem bytes text ends numbers heading absent nodes) q in g.1 ∙ ap gives (only_yes g.0)

  -- where one does, the output stays
  left : (R : Program) → Demand1 R → (n place : ℕ) → first (heading_rows bytes ks heading absent nodes) ≡ just (refusal n place) → (R.marc_heading bytes text ends numbers heading absent nodes).output ≡ nodes
  left R d n place q =
      (d.heading_leaves bytes text ends numbers heading absent nodes).refusal_leaves n place
      (by_refusal (heading_rows bytes ks heading absent nodes) _ (d.marc_heading_lem bytes text ends numbers heading absent nodes) n place q)

  answers : r.answer ≡ s.answer
  answers =
      same_answer (heading_rows bytes ks heading absent nodes) r.answer s.answer (one.marc_heading_lem bytes text ends numbers heading absent nodes)
      (one'.marc_heading_lem bytes text ends numbers heading absent nodes) (λ q. answered P one q ∙ inv (answered Q one' q))

  outputs : r.output ≡ s.output
  outputs = go (first (heading_rows bytes ks heading absent nodes)) refl
    where
      go : (o : Option Refusal) → first (heading_rows bytes ks heading absent nodes) ≡ o → r.output ≡ s.output
      go (just (refusal n place)) q = left P one n place q ∙ inv (left Q one' n place q)
      go none q =
          let h = more.record_headings.heads bytes text ends numbers heading absent nodes (answered P one q) in
          let k = more'.record_headings.heads bytes text ends numbers heading absent nodes (answered Q one' q) in
          h.2 ∙ ap (λ l. l ++ drop 3 nodes) (one_heads bytes ks heading absent h.0 k.0 h.1 k.1) ∙ inv k.2

  -- LAW
  pub same_record_heading : r ≡ s
  same_record_heading = λ i. record { answer = answers i; output = outputs i }
