-- The loop keeps that the digest is that of what is left, behind what is reckoned already.
use mathlib.Core.Path.{sym, ◌∙◌}
use native.Mathlib.Omega.{arith}
use Rattle.known_strings.proofs.Chaining.{digest_on, digest_ends}
use Rattle.known_strings.proofs.chains.digest.Goals as goal

pub loop-byte-preserved : goal.loop-byte-preserved
loop-byte-preserved c =
    let head = c.loop-byte in
    (omega arith, sym (digest_on c.args.string.now head.byte-index head.sum (omega arith)) ∙ head.invariant.1)

pub returns : goal.returns
returns c =
    let head = c.loop-byte in
    (sym (digest_ends c.args.string.now head.byte-index head.sum (omega arith)) ∙ head.invariant.1, head.invariant.0)
