-- Where no row holds, the answer is the file's length.
use Rattle.std.proofs.Common.{arith}
use Rattle.writer.proofs.Rows.{by_none}
use Rattle.writer.proofs.verdict.Goals as goal

pub returns : goal.returns
returns c = by_none _ _ _ _ c.if-not-allowed.ensures c.in_default.ensures (omega arith) (omega arith)
