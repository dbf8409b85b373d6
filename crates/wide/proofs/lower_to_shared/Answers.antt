-- The loop goes from faced symbol to faced symbol, and each leaves an index.
use Rattle.std.proofs.Common.{arith, ◌≡◌, ℕ, ◌+◌, ◌-◌, ◌<◌, get_or, take, drop, ◌∙◌}
use lib.Seq.{get_or-take, get_or-drop}
use Rattle.meaning.specs.File.{table_in}
use Rattle.wide.proofs.Sharing.{shared_next, shared_end}
use Rattle.wide.proofs.lower_to_shared.Goals as goal

pub loop-a-preserved : goal.loop-a-preserved
loop-a-preserved c =
    let t = c.args.table in
    let loop = c.loop-a in
    let step = c.in-Some.ensures.steps in
    let least = step.2.0 in
    let kept = c.kept_row-from in
    let lowered = c.lower_to in
    let from = c.kept_row-from.result in
    let many = from + t.symbols - from in
    let row = take many (drop from c.kept_row-from.new.index) in
    let degrees : (s : ℕ) → s < (table_in t.file.now).size → get_or row s 0 ≡ (table_in t.file.now).deg s c.in-Some.a =
    λ s l. get_or-take many (drop from c.kept_row-from.new.index) s 0 (omega (arith, t.symbols_are)) ∙ get_or-drop from c.kept_row-from.new.index s 0 ∙ kept.ensures.1 s l in
    let words = loop.invariant.2 in
    let more = shared_next (table_in t.file.now) c.args.faced.words loop.a-iterator.from c.in-Some.a loop.least row lowered.new.least least.not_below (omega (arith, least.below)) (rw words at least.is) (rw words at least.none) degrees (λ s l. lowered.ensures s (omega (arith, l))) loop.invariant.6 in
    (tt, tt, step.0 ∙ words, step.1 ∙ loop.invariant.3, lowered.auto.least ∙ loop.invariant.4, kept.auto.index ∙ loop.invariant.5, rw step.2.1 more, kept.ensures.0)

pub returns-clause-shared : goal.returns-clause-shared
returns-clause-shared c =
    let t = c.args.table in
    let loop = c.loop-a in
    let none = rw (loop.invariant.2, loop.invariant.3, t.symbols_are) at c.in-None.ensures.steps.2 in
    shared_end (table_in t.file.now) c.args.faced.words loop.a-iterator.from _ none loop.invariant.6
