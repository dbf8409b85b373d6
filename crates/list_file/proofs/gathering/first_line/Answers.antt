-- Field by field: each exit knows which field is not there.
use Rattle.std.proofs.Common.{◌≡◌, sym, ap, ◌∙◌, ◌∷◌}
use Rattle.list_file.proofs.Fields.{parted, not_parted, first_long, first_is}
use Rattle.list_file.proofs.gathering.first_line.Goals as goal
use Rattle.list_file.proofs.gathering.first_line.Goals.{In_ok-strip_prefix}

-- a space is behind the heading symbol
space : (c : In_ok-strip_prefix) → c.in_ok-heading.rest.now ≡ 32 ∷ c.in_ok-strip_prefix.field-0.now
space c =
    let is = c.in_ok-strip_prefix.ensures.cases in
    parted c.in_ok-heading.rest.now 32 is.0 ∙ ap (λ t. 32 ∷ t) (sym is.1)

pub returns-in_err-strip_prefix-2 : goal.returns-in_err-strip_prefix-2
returns-in_err-strip_prefix-2 c =
    rw c.from_residual-in_err-strip_prefix-2.ensures
    (first_long _ _ _ c.in_ok-heading.ensures _ (space (goal.at.returns-in_err-strip_prefix-2 c).In_ok-strip_prefix) _ _ c.in_ok-absent.ensures (not_parted c.in_ok-absent.rest.now 10 c.in_err-strip_prefix-2.ensures.cases))

pub returns : goal.returns
returns c =
    let is = c.in_ok-strip_prefix-2.ensures.cases in
    first_is _ _ _ c.in_ok-heading.ensures _ (space (goal.at.returns c).In_ok-strip_prefix) _ _ c.in_ok-absent.ensures _ (parted c.in_ok-absent.rest.now 10 is.0 ∙ ap (λ t. 10 ∷ t) (sym is.1))
