-- There is one heading: one field is the first with its tag, and a string that one entry has, and no other, has one number.
use mathlib.Core.Path.{◌≡◌, sym as inv, ap, ap₂, ◌∙◌, subst}
use mathlib.Core.List.{List, [], ◌∷◌}
use mathlib.Core.Option.{Option, none, some as just, some-injective}
use Prim.Native.Nat.{ℕ}
use lib.ListN.{get_or}
use Rattle.marc.specs.Frame.{fields_in}
use Rattle.marc.specs.Subfields.{subfield}
use Rattle.marc.specs.Known.{Known}
use Rattle.marc.specs.Heading.{tag100, code_a, code_d, then_in, field100, dates_in}
use Rattle.marc.specs.Reading.{Listed, DatesNode, Heads}
use Rattle.marc.proofs.Strings.{number-listed}
use Rattle.marc.proofs.Headings.{with_first}

one_number : (ks : List Known) (string : List ℕ) (n m : ℕ) → Listed ks string n → Listed ks string m → n ≡ m
one_number ks string n m l k = some-injective n m (inv (number-listed ks string n l) ∙ number-listed ks string m k)

one_dates : (ks : List Known) (absent : ℕ) (o : Option (List ℕ)) (n m : ℕ) → DatesNode ks absent o n → DatesNode ks absent o m → n ≡ m
one_dates ks absent none n m l k = l ∙ inv k
one_dates ks absent (just string) n m l k = one_number ks string n m l k

-- LAW: the last node is that of the record's dates
pub dates_node_lem : (r : List ℕ) (ks : List Known) (heading absent : ℕ) (nodes : List ℕ) → Heads r ks heading absent nodes → DatesNode ks absent (dates_in r) (get_or nodes 2 0)
unfolding dates_in field100
dates_node_lem r ks heading absent nodes h =
    let there = with_first tag100 (fields_in r) h.content h.first_100 in
    subst (λ o. DatesNode ks absent (then_in o (subfield code_d)) (get_or nodes 2 0)) (inv there)
    (subst (λ xs. DatesNode ks absent (subfield code_d h.content) (get_or xs 2 0)) (inv h.nodes_are) h.dates_are)

-- THEOREM
pub one_heads : (r : List ℕ) (ks : List Known) (heading absent : ℕ) (xs ys : List ℕ) → Heads r ks heading absent xs → Heads r ks heading absent ys → xs ≡ ys
one_heads r ks heading absent xs ys h k =
    let same : h.content ≡ k.content
    = some-injective _ _ (inv (with_first tag100 (fields_in r) h.content h.first_100) ∙ with_first tag100 (fields_in r) k.content k.first_100) in
    let name : h.name ≡ k.name = some-injective _ _ (inv h.name_is ∙ ap (subfield code_a) same ∙ k.name_is) in
    let n = one_number ks k.name h.name_node k.name_node (subst (λ s. Listed ks s h.name_node) name h.name_listed) k.name_listed in
    let d = one_dates ks absent (subfield code_d k.content) h.dates_node k.dates_node (subst (λ c. DatesNode ks absent (subfield code_d c) h.dates_node) same h.dates_are) k.dates_are in
    h.nodes_are ∙ ap₂ (λ a b. heading ∷ a ∷ b ∷ []) n d ∙ inv k.nodes_are
