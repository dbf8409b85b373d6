-- The loop keeps the least and the most of what was looked up. It ends where all symbols of the set are, or where the rest can change neither.
use Rattle.std.proofs.Common.{arith, ◌+◌, ◌∙◌}
use Rattle.meaning.specs.File.{table_in}
use Rattle.positions.proofs.Rating.{RatedTo, rated_next, rated_all, rated_early}
use Rattle.positions.proofs.rated.few_degrees.Goals as goal
use Rattle.positions.proofs.rated.few_degrees.Goals.{After-max-best}

-- one symbol more is looked up
looked_up : (c : After-max-best)
    → RatedTo (table_in c.args.table.file.now) c.args.faced.words c.args.shared.set.words c.args.before.lowest (c.in-Some.s + 1) c.min-lowest.result c.max-best.result
looked_up c =
    let loop = c.loop-s in
    let least = c.in-Some.ensures.steps.2.0 in
    let words = loop.invariant.2 in
    rated_next _ _ loop.invariant.4 least.not_below (omega (arith, least.below, loop.invariant.3, c.args.table.symbols_are)) (rw words at least.is) (rw words at least.none) c.shared_degree-least.ensures c.min-lowest.ensures c.max-best.ensures

pub returns-then-lowest-shared : goal.returns-then-lowest-shared
returns-then-lowest-shared c =
    let r = looked_up (goal.at.returns-then-lowest-shared c).After-max-best in
    record {
      lowest_falls = omega (arith, r.lows);
      highest_falls = omega arith;
      rated = λ cut L top is. rated_early _ _ r L top is _ (omega arith) (omega arith);
    }

pub loop-s-preserved : goal.loop-s-preserved
loop-s-preserved c =
    let r = looked_up (goal.at.loop-s-preserved c).After-max-best in
    let step = c.in-Some.ensures.steps in
    (tt, tt, step.0 ∙ c.loop-s.invariant.2, step.1 ∙ c.loop-s.invariant.3, rw step.2.1 r)

pub returns : goal.returns
returns c =
    let t = c.args.table in
    let loop = c.loop-s in
    let r = loop.invariant.4 in
    let none = rw (loop.invariant.2, loop.invariant.3, t.symbols_are) at c.in-None.ensures.steps.2 in
    record {
      lowest_falls = omega (arith, r.lows);
      highest_falls = omega (arith, c.min.ensures);
      rated = λ cut L top is. rw c.min.ensures (rated_all _ _ r L top is _ none);
    }
