-- A digit lets what is left decide, and what is left writes on behind the number so far.
use Rattle.std.proofs.Common.{sym, ◌∙◌, length, arith, rules}
use Rattle.marc_record.proofs.Numbers.{digit_stops, digit_goes, digit_joins, digits-none, value-none, one_digit_more, at_most_five}
use Rattle.marc_record.proofs.number.number.Goals as goal

pub returns-then-not-is_ascii_digit : goal.returns-then-not-is_ascii_digit
returns-then-not-is_ascii_digit c =
    let r = c.args.bytes.now in
    sym c.loop-byte.invariant.0 ∙ digit_stops r c.loop-byte.byte-index (length r) c.loop-byte-test.true (sym c.is_ascii_digit.ensures.value ∙ c.if-not-is_ascii_digit.true)

pub loop-byte-preserved : goal.loop-byte-preserved
loop-byte-preserved c =
    let r = c.args.bytes.now in
    let i = c.loop-byte.byte-index in
    let keeps = c.loop-byte.invariant in (
      sym (digit_goes r i (length r) c.loop-byte-test.true (sym c.is_ascii_digit.ensures.value ∙ c.if-not-is_ascii_digit.false)) ∙ keeps.0,
      sym (digit_joins r i (length r) c.loop-byte-test.true c.loop-byte.number) ∙ keeps.1,
      one_digit_more _ _ i keeps.2 (search rules),
    )

pub returns : goal.returns
returns c =
    let r = c.args.bytes.now in
    let i = c.loop-byte.byte-index in
    let keeps = c.loop-byte.invariant in
    (sym keeps.0 ∙ digits-none r i (length r) (omega arith), sym (value-none r i (length r) c.loop-byte.number (omega arith)) ∙ keeps.1, at_most_five _ i keeps.2 (omega arith))
