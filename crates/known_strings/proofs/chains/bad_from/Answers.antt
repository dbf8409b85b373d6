-- The loop keeps that the strings gone over are chained, as far as the block goes, and that none of the entries is bad.
use borrow.Author.Tests.{eq-eqb, ne_eqb}
use mathlib.Core.Path.{◌≡◌, sym, ap, ◌∙◌}
use mathlib.Core.Bool.{Bool, true}
use mathlib.Core.List.{List}
use Prim.Native.Nat.{ℕ, ◌+◌, ◌-◌, ◌≤◌}
use native.Mathlib.Omega.{arith}
use lib.Dec.{eqb}
use lib.ListN.{get_or, length-set, length-replicate}
use Rattle.theory.specs.Least.{some}
use Rattle.theory.proofs.Lemmas.{or_right}
use Rattle.meaning.proofs.Bits.{get_or_zeros}
use Rattle.known_strings.specs.Lent.{string_in, listed_above, bad_in}
use Rattle.known_strings.specs.Chains.{digest_of, block_size, like, FineTo, BadFrom}
use Rattle.known_strings.proofs.Chaining.{sought_first, sought_on, sought_bad, sought_next, sought_past}
use Rattle.known_strings.proofs.chains.bad_from.Goals as goal
use Rattle.known_strings.proofs.chains.bad_from.Goals.{After-digest-mark, After-is_chained, then-is_chained-via-then-is_chained, then-is_chained-via-else-is_chained+then-known-j, then-k-lt-BLOCK, else-k-lt-BLOCK}

-- an entry that is bad, where none before it is
told_bad : {text ends numbers : List ℕ} {absent from end j : ℕ} → from ≤ j → j ≤ end → FineTo text ends numbers absent from (from + block_size) j
    → bad_in text ends numbers absent j ≡ true → BadFrom text ends numbers absent from end j
told_bad l m fine bad = record { not_before = l; not_behind = m; fine = fine; bad = λ _. bad }

-- the mark is the digest of string j
mark_is : (c : goal.After-digest-mark) → c.digest-mark.result ≡ digest_of (string_in c.args.known.text.now c.args.known.ends.now c.loop-j.j)
mark_is c = c.digest-mark.ensures.0 ∙ ap digest_of c.string-string.ensures

-- what the walk says of string j
walked : (c : goal.After-is_chained) (b : Bool) → c.is_chained.result ≡ b
    → let a = c.args in
    some (get_or c.loop-j.heads c.digest-mark.result 0) (like a.known.text.now a.known.ends.now a.from (string_in a.known.text.now a.known.ends.now c.loop-j.j)) ≡ b
walked c b e = sym (rw c.string-string.ensures at c.is_chained.ensures) ∙ e

pub loop-j-init : goal.loop-j-init
loop-j-init c =
    let a = c.args in
    (length-replicate {A = ℕ} 16384 0, length-replicate {A = ℕ} 16384 1, sought_first a.known.text.now a.known.ends.now a.known.numbers.now a.absent a.from _ _ (get_or_zeros 16384))

pub is_chained-requires : goal.is_chained-requires
is_chained-requires c =
    let a = c.args in
    let is = mark_is (goal.at.is_chained-requires c).After-digest-mark in
    rw c.string-string.ensures (sought_on a.known.text.now a.known.ends.now a.known.numbers.now a.absent a.from c.loop-j.j c.loop-j.heads c.loop-j.links c.loop-j.invariant.2 c.digest-mark.result c.digest-mark.ensures.1 is (omega arith))

pub returns-then-is_chained : goal.returns-then-is_chained
returns-then-is_chained c =
    let a = c.args in
    let loop = c.loop-j in
    let here = goal.at.returns-then-is_chained c in
    let is = mark_is here.After-digest-mark in
    told_bad (omega arith) (omega arith) loop.invariant.2.fine
    (elim c.then-is_chained.branch [
      | then-is_chained-via-then-is_chained w ↦
          sought_bad a.known.text.now a.known.ends.now a.known.numbers.now a.absent a.from loop.j loop.heads loop.links loop.invariant.2 c.digest-mark.result c.digest-mark.ensures.1 is (omega arith) (walked here.After-is_chained true w.if-is_chained.true)
      | then-is_chained-via-else-is_chained+then-known-j w ↦
          or_right (listed_above a.known.text.now a.known.ends.now loop.j) (eqb (get_or a.known.numbers.now loop.j 0) a.absent) (eq-eqb _ _ w.if-known-j.true)
    ])

pub loop-j-preserved : goal.loop-j-preserved
loop-j-preserved c =
    let a = c.args in
    let loop = c.loop-j in
    let here = goal.at.loop-j-preserved c in
    let mark = c.digest-mark.result in
    let is = mark_is here.After-digest-mark in
    let small = c.digest-mark.ensures.1 in
    let new = walked here.After-is_chained _ c.if-is_chained.false in
    let number = ne_eqb (get_or a.known.numbers.now loop.j 0) a.absent c.if-known-j.false in
    let k = loop.j - a.from in
    let at : a.from + k ≡ loop.j = omega arith in
    elim c.if-k-lt-BLOCK.branch [
      | then-k-lt-BLOCK w ↦
          rw (w.heads-is, w.links-is)
          (length-set loop.heads mark (k + 1) ∙ loop.invariant.0, length-set loop.links k (get_or loop.heads mark 0) ∙ loop.invariant.1, sought_next a.known.text.now a.known.ends.now a.known.numbers.now a.absent a.from loop.j loop.heads loop.links loop.invariant.2 mark small is new number k at w.if-k-lt-BLOCK.true (omega (arith, loop.invariant.0)) (omega (arith, loop.invariant.1)))
      | else-k-lt-BLOCK w ↦
          rw (w.heads-is, w.links-is)
          (loop.invariant.0, loop.invariant.1, sought_past a.known.text.now a.known.ends.now a.known.numbers.now a.absent a.from loop.j loop.heads loop.links loop.invariant.2 mark small is new number k at w.if-k-lt-BLOCK.false)
    ]
