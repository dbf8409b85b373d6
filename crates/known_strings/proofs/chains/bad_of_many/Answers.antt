-- Block after block the loop keeps that no entry before `end` is bad by what was sought so far, and that the one there is, if it is not behind the last.
use mathlib.Core.Path.{◌≡◌, sym, ap, ◌∙◌}
use Prim.Native.Nat.{◌+◌}
use native.Mathlib.Omega.{arith}
use Rattle.theory.specs.Least.{least_below}
use Rattle.meaning.proofs.First.{none_below, least_at}
use Rattle.known_strings.specs.Lent.{bad_in}
use Rattle.known_strings.specs.Chains.{block_size}
use Rattle.known_strings.proofs.Chaining.{fine_all}
use Rattle.known_strings.proofs.chains.bad_of_many.Goals as goal

pub returns-then-end-n : goal.returns-then-end-n
returns-then-end-n c =
    let a = c.args in
    let head = c.loop-end in
    let bad = bad_in a.known.text.now a.known.ends.now a.known.numbers.now a.absent in
    let none = none_below bad head.end (fine_all a.known.text.now a.known.ends.now a.known.numbers.now a.absent (head.from + block_size) head.end head.invariant.2 (omega arith)) in
    sym (least_at bad head.end a.n none (head.invariant.3 c.if-end-n.true) c.if-end-n.true)

pub returns-else-end-n : goal.returns-else-end-n
returns-else-end-n c =
    let a = c.args in
    let head = c.loop-end in
    let bad = bad_in a.known.text.now a.known.ends.now a.known.numbers.now a.absent in
    let all : a.n ≡ head.end = omega arith in
    let none = none_below bad head.end (fine_all a.known.text.now a.known.ends.now a.known.numbers.now a.absent (head.from + block_size) head.end head.invariant.2 (omega arith)) in
    sym (ap (λ n. least_below n bad) all ∙ none)
