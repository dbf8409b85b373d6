-- The rows 5 to 8 are tested in their order: each return knows that the rows before its own are silent.
use mathlib.Core.Path.{◌≡◌, ap, ◌∙◌}
use mathlib.Core.Bool.{true, false, not}
use mathlib.Core.Option.{none}
use Rattle.std.proofs.lemmas.Result.{err_from_is_err_and}
use Rattle.theory.specs.Read.{reading, whole}
use Rattle.meaning.specs.File.{table_in}
use Rattle.meaning.specs.Refusals.{row, at0, row5}
use Rattle.refusal.specs.declared.Refusal.TheVariants.{Pattern, Heading}
use Rattle.matches.proofs.Asked.{read_whole, faulty_where, cut_degree, asked_cut, asked_pattern, asked_heading, asked_room}
use Rattle.matches.proofs.check_asked.Goals as goal
use Rattle.matches.proofs.check_asked.Goals.{Else-not-is_cut, In_ok-map_err, In_ok-map_err-2}

-- what each test leaves for those after it
cut_fine : (c : goal.Else-not-is_cut) → row5 c.args.cut ≡ row 5 none
cut_fine c = c.is_cut.ensures ∙ ap (λ b. row 5 (at0 (not b))) c.if-not-is_cut.false

pattern_whole : (c : goal.In_ok-map_err) → reading (table_in c.args.table.file.now) true c.args.pattern.now ≡ whole
pattern_whole c = read_whole c.read.result c.map_err.result c.read.ensures c.map_err.ensures.variant c.in_ok-map_err.was

heading_whole : (c : goal.In_ok-map_err-2) → reading (table_in c.args.table.file.now) false c.args.heading.now ≡ whole
heading_whole c = read_whole c.read-2.result c.map_err-2.result c.read-2.ensures c.map_err-2.ensures.variant c.in_ok-map_err-2.was

pub returns-then-not-is_cut-clause-checked : goal.returns-then-not-is_cut-clause-checked
returns-then-not-is_cut-clause-checked c =
    let a = c.args in
    asked_cut a.table.file.now a.pattern.now a.heading.now a.cut a.spans.now a.sets.now (c.is_cut.ensures ∙ ap (λ b. row 5 (at0 (not b))) c.if-not-is_cut.true)

pub returns-in_err-map_err-clause-checked : goal.returns-in_err-map_err-clause-checked
returns-in_err-map_err-clause-checked c =
    let a = c.args in
    let p = err_from_is_err_and c.from_residual.result c.from_residual.ensures.1 in
    let f = faulty_where c.read.result c.map_err.result Pattern c.read.ensures c.map_err.ensures.cases c.in_err-map_err.was in
    rw (p.1, p.2, f.2) (asked_pattern a.table.file.now a.pattern.now a.heading.now a.cut a.spans.now a.sets.now (cut_fine (goal.at.returns-in_err-map_err-clause-checked c).Else-not-is_cut) f.0 f.1)

pub returns-in_err-map_err-2-clause-checked : goal.returns-in_err-map_err-2-clause-checked
returns-in_err-map_err-2-clause-checked c =
    let at = goal.at.returns-in_err-map_err-2-clause-checked c in
    let a = c.args in
    let p = err_from_is_err_and c.from_residual-in_err-map_err-2.result c.from_residual-in_err-map_err-2.ensures.1 in
    let f = faulty_where c.read-2.result c.map_err-2.result Heading c.read-2.ensures c.map_err-2.ensures.cases c.in_err-map_err-2.was in
    rw (p.1, p.2, f.2) (asked_heading a.table.file.now a.pattern.now a.heading.now a.cut a.spans.now a.sets.now (cut_fine at.Else-not-is_cut) (pattern_whole at.In_ok-map_err) f.0 f.1)

pub returns-then-not-has_room-clause-checked : goal.returns-then-not-has_room-clause-checked
returns-then-not-has_room-clause-checked c =
    let at = goal.at.returns-then-not-has_room-clause-checked c in
    let a = c.args in
    asked_room a.table.file.now a.pattern.now a.heading.now a.cut a.spans.now a.sets.now (cut_fine at.Else-not-is_cut) (pattern_whole at.In_ok-map_err) (heading_whole at.In_ok-map_err-2) _
    (c.has_room.ensures ∙ ap (λ b. row 8 (at0 (not b))) c.if-not-has_room.true)

pub invariant_of-result : goal.invariant_of-result
invariant_of-result c =
    let at = goal.at.invariant_of-result c in
    let cut = cut_degree c.args.cut (cut_fine at.Else-not-is_cut) in
    record { pattern_reads = pattern_whole at.In_ok-map_err; heading_reads = heading_whole at.In_ok-map_err-2; some_cut = cut.0; top_cut = cut.1 }

pub returns-clause-checked : goal.returns-clause-checked
returns-clause-checked c =
    let at = goal.at.returns-clause-checked c in
    let a = c.args in
    asked_room a.table.file.now a.pattern.now a.heading.now a.cut a.spans.now a.sets.now (cut_fine at.Else-not-is_cut) (pattern_whole at.In_ok-map_err) (heading_whole at.In_ok-map_err-2) _
    (c.has_room.ensures ∙ ap (λ b. row 8 (at0 (not b))) c.if-not-has_room.false)
