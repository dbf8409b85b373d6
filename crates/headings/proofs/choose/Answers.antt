-- Where nothing is refused the degrees choose.
use mathlib.Core.Path.{◌≡◌, sym, ap, ◌∙◌}
use mathlib.Core.Bool.{true}
use native.Mathlib.Omega.{arith}
use Rattle.meaning.specs.Refusals.{first}
use Rattle.meaning.specs.Calls.{nearer_rows, nearer}
use Rattle.headings.specs.Terms.{accepted}
use Rattle.headings.proofs.Lists.{all_sound, neither_nearer, first-nearer, second_nearer}
use Rattle.headings.proofs.choose.Goals as goal
use Rattle.headings.proofs.choose.Goals.{In-Some}

-- where a table is handed on, nothing is refused over it
taken : (c : goal.In-Some) → let a = c.args in accepted (first (nearer_rows c.in-Some.table.file.now a.heading.now a.first.now a.second.now)) ≡ true
taken c = let a = c.args in ap (λ f. accepted (first (nearer_rows f a.heading.now a.first.now a.second.now))) c.in-Some.ensures.same_file ∙ sym c.in-Some.ensures.accepts

pub returns-in_default : goal.returns-in_default
returns-in_default c = sym (neither_nearer _ _ _ _ (sym c.in_default.ensures.accepts))

pub heading_degree-requires : goal.heading_degree-requires
heading_degree-requires c = let s = all_sound _ _ _ _ (taken (goal.at.heading_degree-requires c).In-Some) in (s.1, s.2)

pub heading_degree-requires-2 : goal.heading_degree-requires-2
heading_degree-requires-2 c = let s = all_sound _ _ _ _ (taken (goal.at.heading_degree-requires-2 c).In-Some) in (s.1, s.3)

pub returns-then-heading_degree : goal.returns-then-heading_degree
returns-then-heading_degree c =
    let a = c.args in
    sym (second_nearer _ _ _ _ (taken (goal.at.returns-then-heading_degree c).In-Some) (omega arith)) ∙ ap (λ f. nearer f a.heading.now a.first.now a.second.now) c.in-Some.ensures.same_file

pub returns-else-heading_degree : goal.returns-else-heading_degree
returns-else-heading_degree c =
    let a = c.args in
    sym (first-nearer _ _ _ _ (taken (goal.at.returns-else-heading_degree c).In-Some) (omega arith)) ∙ ap (λ f. nearer f a.heading.now a.first.now a.second.now) c.in-Some.ensures.same_file
