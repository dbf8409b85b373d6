-- By what comes next: what is said of it is its text, and the bytes behind it stay.
use mathlib.Core.Path.{refl, sym, ap, subst}
use Rattle.input.specs.Found.{Found, found_in}
use Rattle.output.specs.declared.pending.Pending.{Pending}
use Rattle.output.proofs.Turning.{answered}
use Rattle.replay.specs.Batches.{turn_text}
use Rattle.replay.proofs.Turning.{failed_turn, said_nothing}
use Rattle.replay.proofs.answer_next.Goals as goal

pub returns-in-Ended : goal.returns-in-Ended
returns-in-Ended c =
    let a = c.args in
    let nothing : Pending = record { written = 0; standing = a.used } in
    (tt, answered (turn_text a.k) _ (sym (ap (found_in _) c.in-Ended.is), tt) nothing (said_nothing a.k a.out.now a.used c.requires.most_room_in_bounds.1 nothing refl refl))

pub returns-in_ok-said-in-CutOff : goal.returns-in_ok-said-in-CutOff
unfolding turn_text
returns-in_ok-said-in-CutOff c =
    let said = c.in_ok-said-in-CutOff in
    (tt, answered (turn_text c.args.k) _ (sym (ap (found_in _) c.in-CutOff.is), tt) said.said said.ensures)

pub returns-in_ok-said-in-TooLong : goal.returns-in_ok-said-in-TooLong
unfolding turn_text
returns-in_ok-said-in-TooLong c =
    let said = c.in_ok-said-in-TooLong in
    (subst (Found _) c.in-TooLong.is c.requires.found, answered (turn_text c.args.k) _ (sym (ap (found_in _) c.in-TooLong.is), refl) said.said said.ensures)

pub returns-in_ok-said-in-Question : goal.returns-in_ok-said-in-Question
unfolding turn_text
returns-in_ok-said-in-Question c =
    let said = c.in_ok-said-in-Question in
    ((subst (Found _) c.in-Question.is c.requires.found).1, answered (turn_text c.args.k) _ (sym (ap (found_in _) c.in-Question.is), refl) said.said said.ensures)

pub returns-in_err-said-in-CutOff : goal.returns-in_err-said-in-CutOff
unfolding turn_text
returns-in_err-said-in-CutOff c =
    let said = c.in_err-said-in-CutOff in
    failed_turn _ _ _ _ _ _ _ (sym (ap (found_in _) c.in-CutOff.is)) c.from_residual.result c.from_residual.ensures.0 said.field-0.0 said.ensures

pub returns-in_err-said-in-TooLong : goal.returns-in_err-said-in-TooLong
unfolding turn_text
returns-in_err-said-in-TooLong c =
    let said = c.in_err-said-in-TooLong in
    failed_turn _ _ _ _ _ _ _ (sym (ap (found_in _) c.in-TooLong.is)) c.from_residual-in_err-said-in-TooLong.result c.from_residual-in_err-said-in-TooLong.ensures.0 said.field-0.0 said.ensures

pub returns-in_err-said-in-Question : goal.returns-in_err-said-in-Question
unfolding turn_text
returns-in_err-said-in-Question c =
    let said = c.in_err-said-in-Question in
    failed_turn _ _ _ _ _ _ _ (sym (ap (found_in _) c.in-Question.is)) c.from_residual-in_err-said-in-Question.result c.from_residual-in_err-said-in-Question.ensures.0 said.field-0.0 said.ensures
