-- What is said of headings that a program reads from exchange records: which list is refused, which three nodes are written, that absent dates are never the
-- same as given ones, and that records as one writes them are read as they were written. What the words mean is in the crate `marc`, specs/Reading.
use Rattle.std.specs.Prelude.{◌≡◌, ◌↔◌, List, ◌++◌, false, ℕ, ◌<◌, get_or, take, drop}
use Rattle.std.proofs.Math.Option.{none, some as just}
use Rattle.theory.specs.Pairs.{pair, is_pair}
use Rattle.meaning.specs.File.{pair_count_lem, pairs_in}
use Rattle.meaning.specs.Calls.{refused, gives, aye}
use Rattle.marc.specs.Known.{known_in}
use Rattle.marc.specs.Heading.{dates_in}
use Rattle.marc.specs.Reading.{Heads, FirstUnfit, AbsentApart, ReadsWritten}
use Rattle.demands.specs.Program.{Program}

-- Two headings whose last nodes are not the same to any table, and not near to one that lists no pair of them.
pub record DatesApart (P : Program) (one two : List ℕ) : Type 0 where
  pub never_whole : (table : List ℕ) → P.heading_degree table one two ≡ gives 1000 → ⊥
  pub unless-listed : (table : List ℕ)
      → ((k l h d : ℕ) → k < pair_count_lem table → get_or (pairs_in table) k (pair 0 0 0) ≡ pair l h d → is_pair l h (get_or one 2 0) (get_or two 2 0) ≡ false)
      → (d : ℕ) → P.heading_degree table one two ≡ gives d → d ≡ 0

pub record RecordHeadings (P : Program) : Type 0 where
  -- the list, which is tested before all else: 19 is told of the first entry whose string stands before it, or whose number is that of absent dates
  pub first_unfit : (bytes text ends numbers : List ℕ) (heading absent : ℕ) (nodes : List ℕ) (place : ℕ)
      → (P.marc_heading bytes text ends numbers heading absent nodes).answer ≡ refused 19 place ↔ FirstUnfit (known_in text ends numbers) absent place
  -- the nodes: the heading symbol, the number of the name's bytes, and that of the dates' or of absent ones, by the first 100 field in the directory's order
  pub heads : (bytes text ends numbers : List ℕ) (heading absent : ℕ) (nodes : List ℕ) → let given = P.marc_heading bytes text ends numbers heading absent nodes in given.answer ≡ gives aye
      → (three : List ℕ) × Heads bytes (known_in text ends numbers) heading absent three × (given.output ≡ three ++ drop 3 nodes)
  -- absent dates: their number is given to no string; so of two headings, read by one list, one without dates and one with, none is taken for the other
  pub absent_apart : (bytes text ends numbers : List ℕ) (heading absent : ℕ) (nodes : List ℕ) → (P.marc_heading bytes text ends numbers heading absent nodes).answer ≡ gives aye
      → AbsentApart P.symbol_degree_lem (known_in text ends numbers) absent
  pub dates_apart : (text ends numbers : List ℕ) (absent : ℕ) (bytes₁ bytes₂ : List ℕ) (heading₁ heading₂ : ℕ) (nodes₁ nodes₂ : List ℕ)
      → let one = P.marc_heading bytes₁ text ends numbers heading₁ absent nodes₁ in let two = P.marc_heading bytes₂ text ends numbers heading₂ absent nodes₂ in
      one.answer ≡ gives aye → two.answer ≡ gives aye → dates_in bytes₁ ≡ none → (dates : List ℕ) → dates_in bytes₂ ≡ just dates
      → DatesApart P (take 3 one.output) (take 3 two.output)
  -- records as one writes them
  pub as_written : (text ends numbers : List ℕ) → ReadsWritten (known_in text ends numbers) (λ bytes. P.marc_heading bytes text ends numbers)
