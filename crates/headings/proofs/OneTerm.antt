-- The promises of the calls on terms allow one result each. Degrees are told as they are; a part's contents and place are both named by its
-- promise; and a whole list is the very one that was lent.
use mathlib.Core.Path.{◌≡◌, refl, sym, ap, ap₂, ◌∙◌}
use mathlib.Core.List.{List}
use Prim.Native.Nat.{ℕ}
use Rattle.std.specs.Prelude.{Result, Option, Some, None}
use Rattle.meaning.specs.Calls.{Part, part, subterm, Nearer as Which, the_first, the_second_lem, neither, nearer}
use Rattle.refusal.specs.declared.Refusal.{Refusal}
use Rattle.headings.specs.declared.Candidate.{Candidate}
use Rattle.headings.specs.declared.Candidate.TheVariants.{First, Second}
use Rattle.headings.specs.Terms.{Nodes, DegreeOfHeadings, PartOf, IsPart, Subterm, IsChosen, Nearer, said_choice, Choose}
use Rattle.tables.proofs.OneTable.{one_said_degree}

-- Both hold the same nodes and lie at the same place. A reference has nothing else that a program can see; the prover gives each part a name
-- of its own besides, which no promise can speak of.
pub record Same (r s : Nodes) : Type 0 where
  pub holds : r.now ≡ s.now
  pub lies : r.ref_ptr ≡ s.ref_ptr

same_part : (list r s : Nodes) (start count : ℕ) → PartOf list r start count → PartOf list s start count → Same r s
same_part list r s start count p q =
    record {
      holds = p.holds ∙ sym q.holds;
      lies = ap₂ (λ block offset. (block, offset)) (p.block ∙ sym q.block) (p.offset ∙ sym q.offset);
    }

same_reference : (r s : Nodes) → r ≡ s → Same r s
same_reference r s e = record { holds = ap (λ x. x.now) e; lies = ap (λ x. x.ref_ptr) e }

one_part : (list r s : Nodes) (p : Part) → IsPart list r p → IsPart list s p → Same r s
one_part list r s (part start count) = same_part list r s start count

one_chosen : (one two r s : Nodes) (which : Which) → IsChosen one two r which → IsChosen one two s which → Same r s
one_chosen one two r s the_first p q = same_reference r s (p ∙ sym q)
one_chosen one two r s the_second_lem p q = same_reference r s (p ∙ sym q)
one_chosen one two r s neither p q = same_part one r s 0 0 p q

one_whole : (one two r s : Nodes) (which : Which) → (which ≡ neither → ⊥) → IsChosen one two r which → IsChosen one two s which → r ≡ s
one_whole one two r s the_first n p q = p ∙ sym q
one_whole one two r s the_second_lem n p q = p ∙ sym q
one_whole one two r s neither n p q = absurd (n refl)

-- the choice that says this
abbrev choice_of : Which → Option Candidate
choice_of neither = None
choice_of the_first = Some First
choice_of the_second_lem = Some Second

choice_said : (r : Option Candidate) → choice_of (said_choice r) ≡ r
choice_said None = refl
choice_said (Some First) = refl
choice_said (Some Second) = refl

-- THEOREM: any two results that a promise allows are equal
pub one_choice : (table heading one two : List ℕ) (r s : Option Candidate) → Choose table heading one two r → Choose table heading one two s → r ≡ s
one_choice table heading one two r s p q = sym (choice_said r) ∙ ap choice_of (p ∙ sym q) ∙ choice_said s

pub one_degree : (table one two : List ℕ) (r s : Result ℕ Refusal) → DegreeOfHeadings table one two r → DegreeOfHeadings table one two s → r ≡ s
one_degree table one two r s p q = one_said_degree r s (p ∙ sym q)

pub one_subterm : (table : List ℕ) (term : Nodes) (index : ℕ) (r s : Nodes) → Subterm table term index r → Subterm table term index s → Same r s
one_subterm table term index r s = one_part term r s (subterm table term.now index)

module _ (table heading : List ℕ) (one two r s : Nodes) (p : Nearer table heading one two r) (q : Nearer table heading one two s) where
  pub one_nearer : Same r s
  one_nearer = one_chosen one two r s (nearer table heading one.now two.now) p q

  -- one and the same reference where nothing is refused
  pub one_nearer_whole : (nearer table heading one.now two.now ≡ neither → ⊥) → r ≡ s
  one_nearer_whole n = one_whole one two r s (nearer table heading one.now two.now) n p q
