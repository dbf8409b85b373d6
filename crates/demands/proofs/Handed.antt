-- What is handed back is what the statements name: the part that a promise tells of is the subterm's, and where the degrees of both candidates are given,
-- nothing is refused, so the nearer is chosen by them.
use mathlib.Core.Path.{◌≡◌, ap, ◌∙◌, subst}
use mathlib.Core.List.{List}
use mathlib.Core.Bool.{cond}
use mathlib.Core.Option.{none, some as just}
use Prim.Native.Nat.{ℕ, ◌≤◌, ◌<◌}
use borrow.Author.Tests.{lt-ltb, le-ltb}
use lib.ListN.{length}
use Rattle.theory.specs.Tree.{Pattern, encₚ}
use Rattle.meaning.specs.File.{table_in}
use Rattle.meaning.specs.Refusals.{first}
use Rattle.meaning.specs.Calls.{gives, heading_degree, subterm_rows, subterm, the_first, the_second_lem, nearer}
use Rattle.meaning.specs.Demands.{WritesPattern}
use Rattle.meaning.specs.Parts.{subterm_at, SubtermIs}
use Rattle.meaning.proofs.Parts.{subterms}
use Rattle.headings.specs.Terms.{Nodes, PartOf, IsPart, IsChosen}
use Rattle.demands.specs.Handed.{StandsFrom, HandedBack}
use Rattle.demands.proofs.Meant.{Handing, HandsBack, meant}
use Rattle.demands.proofs.Paired.{chosen}

module _ (H : Handing) (k : HandsBack H) where
  found : (table : List ℕ) (term : Nodes) (i : ℕ) → first (subterm_rows table term.now) ≡ none → i < length term.now
      → (p : Pattern) → WritesPattern (table_in table) term.now p → (q : Pattern) × (subterm_at p i ≡ just q) × StandsFrom term (H.subterm table term i) i q
  found table term i f l p w =
      let s : SubtermIs table term.now i (subterm table term.now i) = subterms.found table term.now i f l in
      let j : PartOf term (H.subterm table term i) i (length (encₚ s.q)) = subst (IsPart term (H.subterm table term i)) s.handed_back (k.subterm table term i) in
      (s.q, ap (λ x. subterm_at x i) (s.writes_term.only p w) ∙ s.subterm_is, record { nodes = j.holds ∙ s.holds_it; block = j.block; offset = j.offset })

  module _ (table heading : List ℕ) (one two : Nodes) (d e : ℕ) (f : heading_degree table heading one.now ≡ gives d) (g : heading_degree table heading two.now ≡ gives e) where
    the_first_lem : e ≤ d → H.nearer table heading one two ≡ one
    the_first_lem l =
        let c : nearer table heading one.now two.now ≡ the_first = chosen table heading one.now two.now d e f g ∙ ap (λ b. cond b the_second_lem the_first) (le-ltb d e l) in
        subst (IsChosen one two (H.nearer table heading one two)) c (k.nearer table heading one two)

    the_second : d < e → H.nearer table heading one two ≡ two
    the_second l =
        let c : nearer table heading one.now two.now ≡ the_second_lem = chosen table heading one.now two.now d e f g ∙ ap (λ b. cond b the_second_lem the_first) (lt-ltb d e l) in
        subst (IsChosen one two (H.nearer table heading one two)) c (k.nearer table heading one two)

  -- THEOREM
  pub handed_back : HandedBack (meant H)
  handed_back = record { the_subterm = found; the_first_lem = the_first_lem; the_second = the_second }
