-- The program that the meaning is, whatever two calls hand lists back in it. A program that keeps its promises is equal to the one with its own two, call
-- by call; so what holds of the meaning's program holds of every such program, and no caller can tell two of them apart.
use mathlib.Core.Path.{◌≡◌, sym as inv, ◌∙◌, subst}
use mathlib.Core.List.{List}
use Prim.Native.Nat.{ℕ}
use Rattle.meaning.specs.Calls.{is_table_lem, symbol_degree_lem, heading_degree, Matched, match_call, arity_back, pair_back}
use Rattle.meaning.specs.Tables.{write_call}
use Rattle.meaning.specs.Saved.{widen_call}
use Rattle.headings.specs.Terms.{Nodes, Subterm, Nearer}
use Rattle.marc.specs.Known.{known_in}
use Rattle.marc.specs.Heading.{heading_call}
use Rattle.headings.proofs.OneTerm.{one_subterm, one_nearer}
use Rattle.demands.specs.Program.{Program, Promise, Alike}

-- the two calls that hand a list back, and what they promise
pub record Handing : Type 0 where
  pub subterm : (table : List ℕ) (term : Nodes) (i : ℕ) → Nodes
  pub nearer : (table heading : List ℕ) (one two : Nodes) → Nodes

pub record HandsBack (H : Handing) : Type 0 where
  pub subterm : (table : List ℕ) (term : Nodes) (i : ℕ) → Subterm table term i (H.subterm table term i)
  pub nearer : (table heading : List ℕ) (one two : Nodes) → Nearer table heading one two (H.nearer table heading one two)

-- the meaning's calls, with some match or other
abbrev pub with_match : Handing → ((table pattern heading : List ℕ) (cut : ℕ) (spans sets : List ℕ) → Matched) → Program
with_match H other =
    record {
      is_table_lem = is_table_lem;
      symbol_degree_lem = symbol_degree_lem;
      heading_degree = heading_degree;
      subterm = H.subterm;
      nearer = H.nearer;
      match = other;
      write_table_lem = write_call;
      arity_of_lem = arity_back;
      pair_of = pair_back;
      widen = widen_call;
      marc_heading = λ bytes text ends numbers. heading_call bytes (known_in text ends numbers);
    }

abbrev pub meant : Handing → Program
meant H = with_match H match_call

-- those of a program
abbrev pub handing : Program → Handing
handing P = record { subterm = P.subterm; nearer = P.nearer }

pub hands_back : (P : Program) → Promise P → HandsBack (handing P)
hands_back P k = record { subterm = k.subterm; nearer = k.nearer }

-- LAW: a program that keeps its promises is the meaning's
pub is_meant : (P : Program) → Promise P → P ≡ meant (handing P)
is_meant P k =
    λ i.
    record {
      is_table_lem = λ table. k.is_table_lem-is table i;
      symbol_degree_lem = λ table a b. k.symbol_degree_lem-is table a b i;
      heading_degree = λ table one two. k.heading_degree_lem table one two i;
      subterm = P.subterm;
      nearer = P.nearer;
      match = λ table pattern heading cut spans sets. k.match table pattern heading cut spans sets i;
      write_table_lem = λ arities pairs output. k.write_table_lem-is arities pairs output i;
      arity_of_lem = λ table symbol. k.arity_of_lem-is table symbol i;
      pair_of = λ table index. k.pair_of_lem table index i;
      widen = λ words output. k.widen words output i;
      marc_heading = λ bytes text ends numbers heading absent nodes. k.marc_heading_lem bytes text ends numbers heading absent nodes i;
    }

-- LAW: what holds of the meaning's program, with the program's own two calls, holds of a program that keeps its promises
pub carried : (S : Program → Type 0) (P : Program) → Promise P → S (meant (handing P)) → S P
carried S P k = subst S (inv (is_meant P k))

-- THEOREM: what is returned and left in lent memory is fixed: two programs that keep their promises are alike
pub one_program : (P Q : Program) → Promise P → Promise Q → Alike P Q
one_program P Q p q =
    record {
      is_table_lem-is = λ table. p.is_table_lem-is table ∙ inv (q.is_table_lem-is table);
      symbol_degree_lem-is = λ table a b. p.symbol_degree_lem-is table a b ∙ inv (q.symbol_degree_lem-is table a b);
      heading_degree_lem = λ table one two. p.heading_degree_lem table one two ∙ inv (q.heading_degree_lem table one two);
      subterm = λ table term i. let e = one_subterm table term i _ _ (p.subterm table term i) (q.subterm table term i) in (e.holds, e.lies);
      nearer = λ table heading one two. let e = one_nearer table heading one two _ _ (p.nearer table heading one two) (q.nearer table heading one two) in (e.holds, e.lies);
      match = λ table pattern heading cut spans sets. p.match table pattern heading cut spans sets ∙ inv (q.match table pattern heading cut spans sets);
      write_table_lem-is = λ arities pairs output. p.write_table_lem-is arities pairs output ∙ inv (q.write_table_lem-is arities pairs output);
      arity_of_lem-is = λ table symbol. p.arity_of_lem-is table symbol ∙ inv (q.arity_of_lem-is table symbol);
      pair_of_lem = λ table index. p.pair_of_lem table index ∙ inv (q.pair_of_lem table index);
      widen = λ words output. p.widen words output ∙ inv (q.widen words output);
      marc_heading_lem = λ bytes text ends numbers heading absent nodes.
          p.marc_heading_lem bytes text ends numbers heading absent nodes ∙ inv (q.marc_heading_lem bytes text ends numbers heading absent nodes);
    }
