-- What each turn of the loop keeps.
use mathlib.Core.Path.{◌≡◌}
use lib.ListN.{length}
use Rattle.known_strings.specs.Chains.{digests, block_size}
use Rattle.known_strings.proofs.Chaining.{SoughtTo}
use Rattle.known_strings.proofs.chains.bad_from.Given as goal

abbrev pub invariant-loop-j : goal.invariant-loop-j
invariant-loop-j l =
    (length l.heads ≡ digests) × (length l.links ≡ block_size)
    × SoughtTo l.known.text.now l.known.ends.now l.known.numbers.now l.absent l.from l.j l.heads l.links
