-- Too few spans are refused, and otherwise only the sets are counted.
use mathlib.Core.Path.{ap}
use Prim.Native.Nat.{◌*◌}
use native.Mathlib.Omega.{arith}
use lib.ListN.{length}
use borrow.Author.Tests.{lt-ltb, le-ltb, lt-leb}
use Rattle.meaning.specs.Limits.{set_words_lem}
use Rattle.meaning.specs.Refusals.{row, at0, row8}
use Rattle.matches.proofs.Asked.{below_not}
use Rattle.matches.proofs.has_room.Goals as goal

pub returns-then-spans-ge-ALL_SPANS : goal.returns-then-spans-ge-ALL_SPANS
unfolding row8
returns-then-spans-ge-ALL_SPANS c =
    let a = c.args in
    rw (le-ltb (length a.spans.now) 128 (omega arith)) (ap (λ b. row 8 (at0 b)) (below_not (length a.sets.now) (set_words_lem * length a.heading.now)))

pub returns-else-spans-ge-ALL_SPANS : goal.returns-else-spans-ge-ALL_SPANS
unfolding row8
returns-else-spans-ge-ALL_SPANS c = rw (lt-ltb (length c.args.spans.now) 128 (omega arith), lt-leb 128 (length c.args.spans.now) (omega arith))
