-- Strings below `low` stand before the one that is sought, those from `high` on after it; the strings rise, so a look at one between moves one of the two.
use Prim.Native.Nat.{◌+◌, ◌-◌, ◌/◌}
use native.Mathlib.Omega.{arith}
use lib.ListN.{length}
use Rattle.known_strings.specs.Lent.{listed}
use Rattle.known_strings.proofs.Bytes.{compared_told}
use Rattle.known_strings.proofs.Seeking.{go_up, go_down, place_at, place_none}
use Rattle.known_strings.proofs.tested.halve.Goals as goal

pub loop-low-preserved-in-Less : goal.loop-low-preserved-in-Less
loop-low-preserved-in-Less c =
    let k = c.args.known in
    let head = c.loop-low in
    let up = go_up k.text.now k.ends.now c.args.string.now (length (listed k)) c.requires head.low head.high _ head.invariant.3 (omega (arith, head.invariant.1)) (compared_told _ _ _ _ _ c.string.ensures c.compare.ensures c.in-Less.is) in
    (omega arith, head.invariant.1, head.invariant.2, up)

pub returns-in-Equal : goal.returns-in-Equal
returns-in-Equal c =
    let k = c.args.known in
    let head = c.loop-low in
    place_at k.text.now k.ends.now c.args.string.now (length (listed k)) c.requires (head.low + (head.high - head.low) / 2) (omega (arith, head.invariant.1)) (compared_told _ _ _ _ _ c.string.ensures c.compare.ensures c.in-Equal.is)

pub loop-low-preserved : goal.loop-low-preserved
loop-low-preserved c =
    let k = c.args.known in
    let head = c.loop-low in
    let down = go_down k.text.now k.ends.now c.args.string.now (length (listed k)) c.requires head.low head.high _ head.invariant.3 (compared_told _ _ _ _ _ c.string.ensures c.compare.ensures c.in-Greater.is) in
    (omega arith, omega (arith, head.invariant.1), omega (arith, head.invariant.2), down)

pub returns : goal.returns
returns c =
    let k = c.args.known in
    let head = c.loop-low in
    place_none k.text.now k.ends.now c.args.string.now (length (listed k)) head.low head.high head.invariant.3 (omega arith)
