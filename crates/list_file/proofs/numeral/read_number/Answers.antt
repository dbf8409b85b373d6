-- The digits that were passed are those of the value; the tests are those of the laws.
use Rattle.std.proofs.Common.{◌≡◌, refl, sym, ◌∙◌, false, ◌-◌, get_or, length, drop, arith}
use Rattle.std.proofs.lemmas.List.{take_all, length-drop}
use Rattle.marc.specs.Frame.{is_digit_lem}
use Rattle.marc.proofs.Numerals.{Digit}
use Rattle.list_file.proofs.Numbers.{never_ended, number_ended, leading_zero, too_high, passing_on}
use Rattle.list_file.proofs.numeral.read_number.Goals as goal
use Rattle.list_file.proofs.numeral.read_number.Goals.{Else-not-is_ascii_digit, Then-not-is_ascii_digit}

-- the byte is no digit
other : (c : Then-not-is_ascii_digit) → is_digit_lem (get_or c.args.bytes.now c.loop-i.i 0) ≡ false
other c = sym c.is_ascii_digit.ensures.value ∙ c.if-not-is_ascii_digit.true

-- the byte is a digit
digit : (c : Else-not-is_ascii_digit) → Digit (get_or c.args.bytes.now c.loop-i.i 0)
digit c = sym c.is_ascii_digit.ensures.value ∙ c.if-not-is_ascii_digit.false

pub returns-then-not-is_ascii_digit : goal.returns-then-not-is_ascii_digit
returns-then-not-is_ascii_digit c =
    let bytes = c.args.bytes.now in
    let i = c.loop-i.i in
    rw c.then_some.ensures
    (number_ended bytes c.loop-i.value i c.loop-i.invariant c.loop-i-test.true (other (goal.at.returns-then-not-is_ascii_digit c).Then-not-is_ascii_digit) _ (take_all (length bytes - i) (drop i bytes) (omega (arith, length-drop i bytes))))

pub returns-then-i-gt0 : goal.returns-then-i-gt0
returns-then-i-gt0 c =
    leading_zero _ _ _ c.loop-i.invariant c.loop-i-test.true (digit (goal.at.returns-then-i-gt0 c).Else-not-is_ascii_digit) (omega arith) c.if-i-gt0.true

pub returns-then-value-gt-MOST : goal.returns-then-value-gt-MOST
returns-then-value-gt-MOST c =
    too_high _ _ _ c.loop-i.invariant c.loop-i-test.true (digit (goal.at.returns-then-value-gt-MOST c).Else-not-is_ascii_digit) _ refl c.if-value-gt-MOST.true

pub loop-i-preserved : goal.loop-i-preserved
loop-i-preserved c =
    passing_on _ _ _ c.loop-i.invariant c.loop-i-test.true (digit (goal.at.loop-i-preserved c).Else-not-is_ascii_digit) _ refl (λ l e. omega (arith, l, e)) c.if-value-gt-MOST.false

pub returns : goal.returns
returns c = never_ended _ _ _ c.loop-i.invariant c.loop-i-test.false
