-- What the subterm and the nearer hand back, said of the references themselves: what each holds and where it lies. Nothing here names a part or a
-- choice of the meaning's: a subterm is that of the tree which the list writes, and degrees are what the program's own call says. (When nothing is
-- handed back but an empty list is said by demand 1.)
use Rattle.std.specs.Prelude.{◌≡◌, List, [], ℕ, ◌+◌, ◌*◌, ◌≤◌, ◌<◌, length}
use Rattle.std.proofs.Math.Option.{none, some as just}
use Rattle.theory.specs.Tree.{Pattern, encₚ}
use Rattle.meaning.specs.File.{table_in}
use Rattle.meaning.specs.Refusals.{first}
use Rattle.meaning.specs.Calls.{gives, subterm_rows}
use Rattle.meaning.specs.Demands.{WritesPattern}
use Rattle.meaning.specs.Parts.{subterm_at}
use Rattle.headings.specs.Terms.{Nodes}
use Rattle.demands.specs.Program.{Program}

-- r has no nodes and lies where the list begins
pub record EmptyAt (list r : Nodes) : Type 0 where
  pub no_nodes : r.now ≡ []
  pub block : r.ref_ptr.0 ≡ list.ref_ptr.0
  pub offset : r.ref_ptr.1 ≡ list.ref_ptr.1

-- r holds the nodes of q and lies where the list has them, from index i on; a node has two bytes
pub record StandsFrom (list r : Nodes) (i : ℕ) (q : Pattern) : Type 0 where
  pub nodes : r.now ≡ encₚ q
  pub block : r.ref_ptr.0 ≡ list.ref_ptr.0
  pub offset : r.ref_ptr.1 ≡ list.ref_ptr.1 + 2 * i

-- Of a term that is not refused, the subterm at each index of its list; of two candidates, the very one that was lent whose degree with the heading is
-- higher, the first where the degrees are equal.
pub record HandedBack (P : Program) : Type 0 where
  pub the_subterm : (table : List ℕ) (term : Nodes) (i : ℕ) → first (subterm_rows table term.now) ≡ none → i < length term.now
      → (p : Pattern) → WritesPattern (table_in table) term.now p → (q : Pattern) × (subterm_at p i ≡ just q) × StandsFrom term (P.subterm table term i) i q
  pub the_first_lem : (table heading : List ℕ) (one two : Nodes) (d e : ℕ) → P.heading_degree table heading one.now ≡ gives d
      → P.heading_degree table heading two.now ≡ gives e → e ≤ d → P.nearer table heading one two ≡ one
  pub the_second : (table heading : List ℕ) (one two : Nodes) (d e : ℕ) → P.heading_degree table heading one.now ≡ gives d
      → P.heading_degree table heading two.now ≡ gives e → d < e → P.nearer table heading one two ≡ two
