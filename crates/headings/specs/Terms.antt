-- The calls on terms: what each promises for everything that can be lent to it. A list is handed back as a reference, which has what it holds
-- (`now`) and where it lies (`ref_ptr`: a block and an offset in bytes). A whole list is handed back as the reference that was lent; a part of one
-- is a new reference, of which both are said.
use Rattle.std.specs.Prelude.{◌≡◌, List, Bool, true, false, ℕ, ◌+◌, ◌*◌, take, drop, Result, Option, Some, None}
use Rattle.std.proofs.Math.Option.{Option as Found, none, some as just}
use Rattle.std.specs.Borrow.{Bor}
use Rattle.theory.specs.Read.{Reading, whole, faulty}
use Rattle.meaning.specs.Refusals.{Refusal as Given}
use Rattle.meaning.specs.Calls.{heading_degree, Part, part, subterm, Nearer as Which, the_first, the_second_lem, neither, nearer}
use Rattle.refusal.specs.declared.Refusal.{Refusal}
use Rattle.headings.specs.declared.Candidate.{Candidate}
use Rattle.headings.specs.declared.Candidate.TheVariants.{First, Second}
use Rattle.tables.specs.Tables.{said_degree}

-- a reference to a list of nodes
abbrev pub Nodes : Type 0
Nodes = Bor (List ℕ)

-- ---- 3. The degree of two headings.

abbrev pub DegreeOfHeadings : List ℕ → List ℕ → List ℕ → Result ℕ Refusal → Type 0
DegreeOfHeadings table one two r = said_degree r ≡ heading_degree table one two

-- ---- 4. The subterm at an index.

-- r is a part of the list that was lent, `count` nodes from `start` on: it holds them and lies where they do. A node has two bytes.
pub record PartOf (list r : Nodes) (start count : ℕ) : Type 0 where
  pub holds : r.now ≡ take count (drop start list.now)
  pub block : r.ref_ptr.0 ≡ list.ref_ptr.0
  pub offset : r.ref_ptr.1 ≡ list.ref_ptr.1 + 2 * start

abbrev pub IsPart : Nodes → Nodes → Part → Type 0
IsPart list r (part start count) = PartOf list r start count

abbrev pub Subterm : List ℕ → Nodes → ℕ → Nodes → Type 0
Subterm table term index r = IsPart term r (subterm table term.now index)

-- ---- 5. The nearer of two candidates.

-- r is the candidate itself that was chosen, or the empty part at the first one's start.
abbrev pub IsChosen : Nodes → Nodes → Nodes → Which → Type 0
IsChosen one two r the_first = r ≡ one
IsChosen one two r the_second_lem = r ≡ two
IsChosen one two r neither = PartOf one r 0 0

abbrev pub Nearer : List ℕ → List ℕ → Nodes → Nodes → Nodes → Type 0
Nearer table heading one two r = IsChosen one two r (nearer table heading one.now two.now)

-- Which one was chosen, without the list.
abbrev pub said_choice : Option Candidate → Which
said_choice None = neither
said_choice (Some First) = the_first
said_choice (Some Second) = the_second_lem

abbrev pub Choose : List ℕ → List ℕ → List ℕ → List ℕ → Option Candidate → Type 0
Choose table heading one two r = said_choice r ≡ nearer table heading one two

-- ---- What the tests before an answer come to.

abbrev pub is_whole : Reading → Bool
is_whole whole = true
is_whole (faulty place) = false

abbrev pub accepted : Found Given → Bool
accepted none = true
accepted (just r) = false
