-- With a variable the sets are gathered; without one no node asks for them.
use native.Mathlib.Omega.{arith}
use Rattle.matching.proofs.gathering.gather_near.Goals as goal

pub returns-then-has_variable : goal.returns-then-has_variable
returns-then-has_variable c = record { room = omega (arith, c.requires.fresh.0.room, c.near_sets.auto.near); gathered = λ i l v. c.near_sets.ensures }

pub returns-else-has_variable : goal.returns-else-has_variable
returns-else-has_variable c =
    record { room = c.requires.fresh.0.room; gathered = λ i l v. absurd (omega (arith, c.has_variable.ensures c.if-has_variable.false i l)) }
