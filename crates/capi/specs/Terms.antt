-- The calls on terms: what each promises for everything that can be lent to it.
use Rattle.std.specs.Prelude.{◌≡◌, List, ℕ}
use Rattle.meaning.specs.Calls.{heading_degree, Part, part, subterm, Nearer, the_first, the_second_lem, neither, nearer}
use Rattle.capi.specs.Answers.{coded, later_number}

-- ---- 3. The degree of two headings.

pub record ShxHeadingDegree (table one two : List ℕ) (degree r degree' : ℕ) : Type 0 where
  pub answers : r ≡ coded (heading_degree table one two)
  pub leaves : degree' ≡ later_number (heading_degree table one two) degree

-- ---- 4. The subterm at an index: how many nodes it has. It starts at that index, and the empty part, of no nodes, at the list's start.

abbrev pub count_of : Part → ℕ
count_of (part start count) = count

abbrev pub ShxSubterm : List ℕ → List ℕ → ℕ → ℕ → Type 0
ShxSubterm table term index r = r ≡ count_of (subterm table term index)

-- ---- 5. The nearer of two candidates, as a number.

abbrev pub chosen : Nearer → ℕ
chosen neither = 0
chosen the_first = 1
chosen the_second_lem = 2

abbrev pub ShxNearer : List ℕ → List ℕ → List ℕ → List ℕ → ℕ → Type 0
ShxNearer table heading one two r = r ≡ chosen (nearer table heading one two)
