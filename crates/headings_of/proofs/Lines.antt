-- What the call says of a record is its line: where it has written, the nodes are the heading's three, and a refusal has a number and a place.
use mathlib.Core.Path.{◌≡◌, refl, sym, ap, ◌∙◌}
use mathlib.Core.List.{List, [], ◌∷◌, map}
use Prim.Native.Nat.{ℕ, ◌≤◌}
use native.Mathlib.Omega.{arith}
use lib.ListN.{length, get_or}
use Rattle.meaning.specs.Refusals.{Refusal, refusal, number_of, place_of, first}
use Rattle.meaning.specs.Calls.{aye, refused_as, zeros}
use Rattle.meaning.specs.Program.{decimal, line, refused_word}
use Rattle.meaning.proofs.First.{unless_gives}
use Rattle.marc.specs.Known.{known_in}
use Rattle.marc.specs.Heading.{heading_rows, heading_of, headed, written_unless, later_nodes}
use Rattle.marc.specs.Printed.{heading_word, long_decimal, record_word, record_line, answer_line, answer_text}
use Rattle.exchange.specs.Said.{told, said}
use Rattle.exchange.specs.Heading.{ReadHeading}
use Rattle.exchange.specs.declared.Fault.{Fault}
use Rattle.std.specs.Prelude.{Result, Ok, Err}
use Rattle.output.proofs.Titles.{numbered_short}
use Rattle.headings_of.specs.Rooms.{record_room}

-- LAW: no line with a record's number is longer
pub record_short : (k : ℕ) → length (record_line k) ≤ record_room
unfolding record_line
record_short k = numbered_short record_word k

-- LAW: three nodes, one by one
pub three_nodes : (nodes : List ℕ) → 3 ≡ length nodes → get_or nodes 0 0 ∷ get_or nodes 1 0 ∷ get_or nodes 2 0 ∷ [] ≡ nodes
three_nodes [] l = absurd (omega arith)
three_nodes (a ∷ []) l = absurd (omega arith)
three_nodes (a ∷ b ∷ []) l = absurd (omega arith)
three_nodes (a ∷ b ∷ c ∷ []) l = refl
three_nodes (a ∷ b ∷ c ∷ d ∷ more) l = absurd (omega arith)

refusal_line : (why : Refusal) (nodes : List ℕ) → line (refused_word ∷ decimal (number_of why) ∷ long_decimal (place_of why) ∷ []) ≡ answer_line (refused_as why) nodes
refusal_line (refusal n place) nodes = refl

module _ (bytes text ends numbers : List ℕ) (heading absent : ℕ) (r : Result (Unit {0}) Fault) (later : List ℕ) (read : ReadHeading bytes text ends numbers heading absent (zeros 3) r later) where
  -- LAW: a heading's line
  pub heading_is : r ≡ Ok tt → line (heading_word ∷ map decimal later) ≡ answer_text heading absent (known_in text ends numbers) bytes
  unfolding answer_text headed later_nodes heading_of
  heading_is e =
      let rows = heading_rows bytes (known_in text ends numbers) heading absent (zeros 3) in
      let written = sym read.answers ∙ ap said e in
      let silent = (unless_gives (first rows) aye aye written).0 in
      let nodes = read.leaves ∙ ap (written_unless bytes (known_in text ends numbers) heading absent (zeros 3)) silent in
      ap (λ ns. line (heading_word ∷ map decimal ns)) nodes ∙ ap (λ a. answer_line a (heading_of bytes (known_in text ends numbers) heading absent (zeros 3))) (sym written)

  -- LAW: a refusal's line
  pub refusal_is : (why : Fault) → r ≡ Err why
      → line (refused_word ∷ decimal (number_of (told why)) ∷ long_decimal (place_of (told why)) ∷ []) ≡ answer_text heading absent (known_in text ends numbers) bytes
  unfolding answer_text
  refusal_is why e =
      let nodes = heading_of bytes (known_in text ends numbers) heading absent (zeros 3) in
      refusal_line (told why) nodes ∙ ap (λ a. answer_line a nodes) (sym (ap said e) ∙ read.answers)
