-- The digits are those that the library writes.
use mathlib.Core.Path.{subst, ◌∙◌}
use native.Mathlib.Omega.{arith}
use Rattle.text.specs.Texts.{PutBy}
use Rattle.text.proofs.Puts.{same_long}
use Rattle.text.proofs.Text.put_long.Goals as goal

pub returns : goal.returns
returns c =
    let put = c.put_text in
    let same = c.as_bytes.ensures.value ∙ c.format.ensures.text ∙ same_long c.args.long c.ranges.long.fits in
    (subst (λ text. PutBy c.args.self.now text put.new.self) same put.ensures, omega (arith, put.ensures.ends, c.as_bytes.ensures.len, c.format.ensures.fits))
