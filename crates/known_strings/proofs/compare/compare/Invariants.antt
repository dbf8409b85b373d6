-- What each turn of the loop keeps: what is left decides.
use Prim.Native.Nat.{◌*◌}
use lib.ListN.{drop}
use Rattle.std.proofs.Common.{Ordering}
use Rattle.known_strings.specs.Compared.{ComparedAs}
use Rattle.known_strings.proofs.compare.compare.Given as goal

abbrev pub invariant-loop-i : goal.invariant-loop-i
invariant-loop-i l = (r : Ordering) → ComparedAs (drop (4 * l.i) l.one) (drop (4 * l.i) l.two) r → ComparedAs l.one l.two r
