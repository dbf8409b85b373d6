-- The first mark is where the text ends.
use borrow.Author.Tests.{tests}
use Rattle.std.proofs.Common.{◌≡◌, rules}
use Rattle.std.proofs.lemmas.Iterator.{IsFirst-from_position, YieldsList-from_slice}
use Rattle.marc.specs.Subfields.{subfield_mark}
use Rattle.marc_record.proofs.Texts.{text_ends}
use Rattle.marc_record.proofs.fields.text_to_mark.Goals as goal

pub returns : goal.returns
returns c =
    let xs = c.args.bytes.now in
    let first = IsFirst-from_position _ _ c.position-end.result (λ b. b ≡ subfield_mark) (λ b. b ≡ subfield_mark → ⊥) c.position-end.ensures.ran (YieldsList-from_slice xs cc) (λ x q k. search (rules, tests)) (λ x q k. search (rules, tests)) in
    rw c.unwrap_or.ensures (text_ends xs c.position-end.result first)
