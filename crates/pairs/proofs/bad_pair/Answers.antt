-- No pair before those that are looked at singly is bad. The loop keeps that no pair passed is, and the last one's key; so the pair it stops at is the first bad
-- one, or all are good.
use borrow.Author.Tests.{not-true, not-false}
use mathlib.Core.Path.{◌≡◌, sym, ap, ◌∙◌}
use mathlib.Core.Bool.{true, false, not}
use native.Mathlib.Numerals.{add-one}
use native.Mathlib.Omega.{arith}
use Rattle.theory.specs.Least.{least_below}
use Rattle.meaning.specs.Refusals.{bad_pair_lem}
use Rattle.meaning.proofs.First.{least_on, least_at}
use Rattle.table.specs.Keys.{pair_key}
use Rattle.pairs.proofs.Read.{good_read, key_next}
use Rattle.pairs.proofs.bad_pair.Goals as goal
use Rattle.pairs.proofs.bad_pair.Goals.{After-may_follow}

-- whether the pair may follow is whether it is good
told : (g : _) (c : goal.After-may_follow g)
    → let listed = g.N.PairNumbers.listed c.args.numbers.now in
    c.may_follow.result ≡ not (bad_pair_lem c.args.arities.now listed c.loop-k.k)
told g c =
    rw (c.may_follow.ensures, c.loop-k.invariant.1)
    (good_read _ _ _ (g.met.N.PairNumbers.laws c.args.numbers.now) c.args.arities.now c.loop-k.k _ c.pair-next.ensures (omega arith))

pub returns-then-not-may_follow : goal.returns-then-not-may_follow
returns-then-not-may_follow g c =
    let n = c.args.numbers.now in
    let bad = bad_pair_lem c.args.arities.now (g.N.PairNumbers.listed n) in
    let k = c.loop-k.k in
    let is_bad : bad k ≡ true = not-false (bad k) (sym (told g (goal.at.returns-then-not-may_follow g c).After-may_follow) ∙ c.if-not-may_follow.true) in
    least_at bad k (g.N.PairNumbers.whole n) c.loop-k.invariant.2 is_bad (omega arith)

pub loop-k-preserved : goal.loop-k-preserved
loop-k-preserved g c =
    let n = c.args.numbers.now in
    let bad = bad_pair_lem c.args.arities.now (g.N.PairNumbers.listed n) in
    let k = c.loop-k.k in
    let is_good : bad k ≡ false = not-true (bad k) (sym (told g (goal.at.loop-k-preserved g c).After-may_follow) ∙ c.if-not-may_follow.false) in (
      omega arith,
      c.key-previous.ensures ∙ ap pair_key c.pair-next.ensures ∙ sym (key_next _ _ _ (g.met.N.PairNumbers.laws n) k (omega arith)),
      rw (add-one k) (least_on bad k c.loop-k.invariant.2 is_good),
    )

pub returns : goal.returns
returns g c =
    let bad = bad_pair_lem c.args.arities.now (g.N.PairNumbers.listed c.args.numbers.now) in
    let e : g.N.PairNumbers.whole c.args.numbers.now ≡ c.loop-k.k = omega (arith, c.pairs-pairs.ensures) in
    ap (λ n. least_below n bad) e ∙ c.loop-k.invariant.2
