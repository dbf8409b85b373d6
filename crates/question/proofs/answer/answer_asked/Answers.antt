-- The parts of the input are handed over as they lie there, the lists cut.
use mathlib.Core.Path.{refl, ap, ap₂, ◌∙◌}
use Prim.Native.Nat.{◌+◌, ◌*◌, ◌≤◌}
use native.Mathlib.Omega.{arith}
use Rattle.meaning.specs.File.{number}
use Rattle.meaning.specs.Program.{numbers_from, pattern_in, heading_in, table_bytes}
use lib.ListN.{length, take, drop}
use Rattle.shape.proofs.Shapes.{nodes_inside}
use Rattle.question.proofs.Answering.{copied_list, rest_all, answered}
use Rattle.question.proofs.answer.answer_asked.Goals as goal
use Rattle.question.proofs.answer.answer_asked.Goals.{Start}

-- the lists and the table lie in the input
fits : (c : goal.Start) → 14 + 2 * c.args.header.pattern + 2 * c.args.header.heading ≤ length c.args.input.now
fits c = omega (arith, nodes_inside _ c.requires.header_by.accepted, c.requires.header_by.pattern_is, c.requires.header_by.heading_is)

pub copy_nodes-m-requires : goal.copy_nodes-m-requires
copy_nodes-m-requires c = omega (arith, fits (goal.at.copy_nodes-m-requires c).Start)

pub copy_nodes-n-requires : goal.copy_nodes-n-requires
copy_nodes-n-requires c = fits (goal.at.copy_nodes-n-requires c).Start

pub slice_bounds-match_heading-count : goal.slice_bounds-match_heading-count
slice_bounds-match_heading-count c = omega (arith, fits (goal.at.slice_bounds-match_heading-count c).Start)

pub slice_bounds-match_heading-start : goal.slice_bounds-match_heading-start
slice_bounds-match_heading-start c = omega (arith, fits (goal.at.slice_bounds-match_heading-start c).Start)

pub returns : goal.returns
unfolding pattern_in heading_in table_bytes
returns c =
    let input = c.args.input.now in
    let header = c.requires.header_by in
    let said = c.match_heading in
    let first = c.copy_nodes-m in
    let second = c.copy_nodes-n in
    answered input said.result header.accepted c.requires.spans_value.1
    (rest_all input _ ∙ ap₂ (λ m n. drop (14 + 2 * m + 2 * n) input) header.pattern_is header.heading_is)
    (copied_list input 14 _ _ _ _ _ header.pattern_is refl first.ensures)
    (copied_list input _ _ _ _ _ _ header.heading_is refl second.ensures ∙ ap (λ m. take 1025 (numbers_from input (14 + 2 * m) (number input 4))) header.pattern_is)
    header.cut_is
    c.requires.spans_value.0
    said.ensures
