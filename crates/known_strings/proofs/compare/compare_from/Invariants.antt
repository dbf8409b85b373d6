-- What each turn of the loop keeps: what is left decides.
use lib.ListN.{drop}
use Rattle.std.proofs.Common.{Ordering}
use Rattle.known_strings.specs.Compared.{ComparedAs}
use Rattle.known_strings.proofs.compare.compare_from.Given as goal

abbrev pub invariant-loop-k : goal.invariant-loop-k
invariant-loop-k l = (r : Ordering) → ComparedAs (drop l.k l.one) (drop l.k l.two) r → ComparedAs (drop l.fn.from l.one) (drop l.fn.from l.two) r
