-- Each early return knows one more of the four tests.
use borrow.Author.Tests.{lt-ltb, le-ltb, eq-eqb, ne_eqb}
use Rattle.std.proofs.Common.{refl, Some, None, ◌-◌, ◌%◌, length, arith}
use Rattle.marc.specs.Frame.{base_address}
use Rattle.marc_record.proofs.Numbers.{NumberAt, number_stands}
use Rattle.marc_record.proofs.frame.read_base.Goals as goal
use Rattle.marc_record.proofs.frame.read_base.Goals.{In_ok-base, then-base-lt-FIRST_BASE-via-then-base-lt-FIRST_BASE, then-base-lt-FIRST_BASE-via-else-base-lt-FIRST_BASE+then-base-ne0, then-base-lt-FIRST_BASE-via-else-base-lt-FIRST_BASE+else-base-ne0+then-base-bytes}

-- the number was read
read : (c : goal.In_ok-base) → NumberAt c.args.bytes.now 12 5 (Some c.in_ok-base.base)
read c = number_stands c.args.bytes.now 12 5 5 refl (omega arith) (Some c.in_ok-base.base) c.in_ok-base.ensures

pub returns-in_err-base : goal.returns-in_err-base
returns-in_err-base c =
    let no_number = number_stands c.args.bytes.now 12 5 5 refl (omega arith) None c.in_err-base.ensures in
    rw (c.from_residual.ensures, no_number)

pub returns-then-base-lt-FIRST_BASE : goal.returns-then-base-lt-FIRST_BASE
returns-then-base-lt-FIRST_BASE c =
    let r = c.args.bytes.now in
    let is = read (goal.at.returns-then-base-lt-FIRST_BASE c).In_ok-base in
    elim c.then-base-lt-FIRST_BASE.branch [
      | then-base-lt-FIRST_BASE-via-then-base-lt-FIRST_BASE w ↦ rw (is.0, lt-ltb (base_address r) 25 (omega arith))
      | then-base-lt-FIRST_BASE-via-else-base-lt-FIRST_BASE+then-base-ne0 w ↦ rw (is.0, le-ltb (base_address r) 25 (omega arith), ne_eqb ((base_address r - 25) % 12) 0 (λ e. omega arith))
      | then-base-lt-FIRST_BASE-via-else-base-lt-FIRST_BASE+else-base-ne0+then-base-bytes w ↦ rw (is.0, le-ltb (base_address r) 25 (omega arith), eq-eqb ((base_address r - 25) % 12) 0 (omega arith), le-ltb (base_address r) (length r) (omega arith))
    ]

pub returns : goal.returns
returns c =
    let r = c.args.bytes.now in
    let is = read (goal.at.returns c).In_ok-base in
    (rw (is.0, le-ltb (base_address r) 25 (omega arith), eq-eqb ((base_address r - 25) % 12) 0 (omega arith), lt-ltb (base_address r) (length r) (omega arith)), is.1, is.2)
