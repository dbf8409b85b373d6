-- Field by field: each exit knows which field is not there.
use Rattle.std.proofs.Common.{◌≡◌, sym, ap, subst, ◌∙◌, ◌∷◌, ◌+◌, ◌-◌, length, take, drop, arith}
use Rattle.std.proofs.lemmas.List.{get_or-take, length-take-le, length-drop, take_all}
use Rattle.list_file.specs.Lines.{Strings}
use Rattle.list_file.proofs.Ends.{Inline, all_inline}
use Rattle.list_file.proofs.Fields.{parted, line-unended, line_is}
use Rattle.list_file.proofs.gathering.next_line.Goals as goal
use Rattle.list_file.proofs.gathering.next_line.Goals.{In_ok-rest}

-- a space is behind the number
space : (c : In_ok-rest) → c.in_ok-number.rest.now ≡ 32 ∷ c.in_ok-rest.rest.now
space c =
    let is = c.in_ok-rest.ensures.cases in
    parted c.in_ok-number.rest.now 32 is.0 ∙ ap (λ t. 32 ∷ t) (sym is.1)

pub returns-in_err-end : goal.returns-in_err-end
returns-in_err-end c =
    rw c.from_residual-in_err-end.ensures
    (line-unended _ _ _ c.in_ok-number.ensures _ (space (goal.at.returns-in_err-end c).In_ok-rest) (all_inline c.in_ok-rest.rest.now c.in_err-end.ensures))

pub returns : goal.returns
returns c =
    let more = c.in_ok-rest.rest.now in
    let end = c.in_ok-end.end in
    let found = c.in_ok-end.ensures in
    let size = length-take-le end more (omega (arith, found.0)) in
    let plain = all_inline (take end more) (λ k l. subst Inline (sym (get_or-take end more k 0 (omega (arith, size)))) (found.2 k (omega (arith, size)))) in
    subst (Strings c.args.bytes.now c.in_ok-number.number (take end more)) (sym (take_all (length more - (end + 1)) (drop (end + 1) more) (omega (arith, length-drop (end + 1) more))))
    (line_is _ _ _ c.in_ok-number.ensures more (space (goal.at.returns c).In_ok-rest) end found.0 found.1 plain)
