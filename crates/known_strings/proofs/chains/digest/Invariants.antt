-- What each turn of the loop keeps.
use mathlib.Core.Path.{◌≡◌}
use Prim.Native.Nat.{◌<◌}
use lib.ListN.{drop}
use Rattle.known_strings.specs.Chains.{digests, digest_from, digest_of}
use Rattle.known_strings.proofs.chains.digest.Given as goal

abbrev pub invariant-loop-byte : goal.invariant-loop-byte
invariant-loop-byte l = (l.sum < digests) × (digest_from l.sum (drop l.byte-index l.string) ≡ digest_of l.string)
