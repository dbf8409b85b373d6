-- What the five bytes say, or that they say nothing.
use Rattle.std.proofs.Common.{Some, None, arith}
use Rattle.marc_record.proofs.Numbers.{NumberAt, number_stands}
use Rattle.marc_input.proofs.Said.{said_short, said_other, said_few, said_many}
use Rattle.marc_input.proofs.cutting.said_length.Goals as goal
use Rattle.marc_input.proofs.cutting.said_length.Goals.{In_ok-count}

-- the number was read
read : (c : In_ok-count) → NumberAt c.args.buffer.now c.args.rest.at 5 (Some c.in_ok-count.count)
read c = number_stands c.args.buffer.now c.args.rest.at 5 _ (omega arith) (omega arith) (Some c.in_ok-count.count) c.in_ok-count.ensures

pub returns-then-rest-lt-LENGTH_DIGITS : goal.returns-then-rest-lt-LENGTH_DIGITS
returns-then-rest-lt-LENGTH_DIGITS c = said_short c.args.buffer.now c.args.rest c.requires.0 c.requires.1 (omega arith)

pub returns-in_err-count : goal.returns-in_err-count
returns-in_err-count c =
    rw c.from_residual.ensures
    (said_other c.args.buffer.now c.args.rest c.requires.0 (omega arith) (number_stands c.args.buffer.now c.args.rest.at 5 _ (omega arith) (omega arith) None c.in_err-count.ensures))

pub returns-then-count-lt-FEWEST_BYTES : goal.returns-then-count-lt-FEWEST_BYTES
returns-then-count-lt-FEWEST_BYTES c =
    let is = read (goal.at.returns-then-count-lt-FEWEST_BYTES c).In_ok-count in
    said_few c.args.buffer.now c.args.rest c.requires.0 (omega arith) c.in_ok-count.count is.1 (omega arith)

pub returns : goal.returns
returns c =
    let is = read (goal.at.returns c).In_ok-count in
    said_many c.args.buffer.now c.args.rest c.requires.0 (omega arith) c.in_ok-count.count is.1 is.0 (omega arith)
