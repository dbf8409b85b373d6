-- Lists can be handed back as is promised, whatever is lent: a part as a reference of its own into the list, a candidate as the reference that was lent.
use mathlib.Core.Path.{refl}
use Rattle.meaning.specs.Calls.{Part, part, subterm, Nearer, the_first, the_second_lem, neither, nearer}
use Rattle.headings.specs.Terms.{Nodes, IsPart, IsChosen}
use Rattle.demands.specs.ForC.{part_from}
use Rattle.demands.proofs.Meant.{Handing, HandsBack}

abbrev part_ref : Nodes → Part → Nodes
part_ref list (part start count) = part_from list start count

part_met : (list : Nodes) (p : Part) → IsPart list (part_ref list p) p
part_met list (part start count) = record { holds = refl; block = refl; offset = refl }

abbrev chosen_ref : Nodes → Nodes → Nearer → Nodes
chosen_ref one two the_first = one
chosen_ref one two the_second_lem = two
chosen_ref one two neither = part_ref one (part 0 0)

chosen_met : (one two : Nodes) (which : Nearer) → IsChosen one two (chosen_ref one two which) which
chosen_met one two the_first = refl
chosen_met one two the_second_lem = refl
chosen_met one two neither = record { holds = refl; block = refl; offset = refl }

-- two such calls
abbrev pub handed : Handing
handed =
    record {
      subterm = λ table term i. part_ref term (subterm table term.now i);
      nearer = λ table heading one two. chosen_ref one two (nearer table heading one.now two.now);
    }

-- LAW
pub handed_well : HandsBack handed
handed_well =
    record {
      subterm = λ table term i. part_met term (subterm table term.now i);
      nearer = λ table heading one two. chosen_met one two (nearer table heading one.now two.now);
    }
