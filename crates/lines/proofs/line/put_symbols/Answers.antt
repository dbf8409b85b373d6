-- The loop goes from symbol to symbol of the set, and those below the next one stand in the line.
use mathlib.Core.Path.{refl, subst, ◌∙◌}
use native.Mathlib.Omega.{arith}
use Rattle.meaning.specs.Limits.{set_room}
use Rattle.sets.specs.Words.{NoneBetween}
use Rattle.text.proofs.Puts.{put_none, put_then}
use Rattle.lines.proofs.Joined.{symbols_none, put_symbol, held, symbols_next, symbols_all}
use Rattle.lines.proofs.line.put_symbols.Goals as goal

pub loop-k-init : goal.loop-k-init
loop-k-init c =
    let a = c.args in
    let members = c.members-k-items.ensures in (
      rw (c.into_iter-k-iterator.ensures.into_iter_gives, members.0) c.read-set.ensures,
      rw (c.into_iter-k-iterator.ensures.into_iter_gives) members.2,
      refl,
      omega arith,
      rw (c.into_iter-k-iterator.ensures.into_iter_gives, members.1, symbols_none a.sets.now a.position) put_none,
    )

pub loop-k-preserved : goal.loop-k-preserved
loop-k-preserved c =
    let a = c.args in
    let loop = c.loop-k in
    let words = loop.k-iterator.words.now in
    let step = c.in-Some.ensures.steps in
    let k = c.in-Some.k in
    let least = step.2.0 in
    let text = loop.invariant.4 in
    let put = c.put_field.ensures.0 in
    let here = held a.sets.now a.position words loop.invariant.0 k (omega arith) ∙ least.is in
    let passed = symbols_next a.sets.now a.position words loop.invariant.0 loop.k-iterator.from k least.not_below (omega arith) least.none in (
      rw step.0 loop.invariant.0,
      step.1 ∙ loop.invariant.1,
      refl,
      omega arith,
      rw step.2.1 (put_symbol a.sets.now a.position a.text.now.used k refl here (rw passed text) put),
    )

pub returns : goal.returns
returns c =
    let a = c.args in
    let loop = c.loop-k in
    let words = loop.k-iterator.words.now in
    let none = subst (NoneBetween words loop.k-iterator.from) loop.invariant.1 c.in-None.ensures.steps.2 in
    let all = symbols_next a.sets.now a.position words loop.invariant.0 loop.k-iterator.from set_room (omega arith) (omega arith) none in
    rw (symbols_all a.sets.now a.position, all) (put_then loop.invariant.4 c.put_byte.ensures)
