-- The first entry with the tag is that of the first field with it.
use Rattle.std.proofs.Common.{◌≡◌, sym, ap, ◌∙◌, true, false, Bool, ◌*◌, ◌/◌, ◌<◌, length, take, drop, arith}
use Rattle.std.proofs.Math.Option.{some as just}
use Rattle.std.proofs.lemmas.List.{length-take-le, length-drop}
use Rattle.marc.specs.Frame.{entry_at, entry_count, fields_in}
use Rattle.marc.specs.Known.{same}
use Rattle.marc.specs.Heading.{tag100, field100}
use Rattle.marc_record.specs.Directories.{tagged}
use Rattle.marc_record.proofs.Tags.{tag_is, no_field, field_of}
use Rattle.marc_record.proofs.fields.find_100.Goals as goal
use Rattle.marc_record.proofs.fields.find_100.Goals.{After-directory}

-- how many entries the directory has
count : (c : After-directory) → length c.directory.result.now / 12 ≡ entry_count c.args.frame.bytes.now
count c =
    let r = c.args.frame.bytes.now in
    let n = 12 * entry_count r in
    let long : length c.directory.result.now ≡ n = ap length c.directory.ensures ∙ length-take-le n (drop 24 r) (omega (arith, length-drop 24 r)) in
    omega (arith, long)

-- an entry's tag, in the record and in the directory
tag_of : (c : After-directory) (b : Bool) (k : _) → k < entry_count c.args.frame.bytes.now → tagged c.directory.result.now k ≡ b → same (take 3 (drop (entry_at k) c.args.frame.bytes.now)) tag100 ≡ b
tag_of c b k l e =
    let r = c.args.frame.bytes.now in
    tag_is r (12 * entry_count r) k (omega (arith, l)) ∙ sym (ap (λ d. tagged d k) c.directory.ensures) ∙ e

pub returns-in_err-e : goal.returns-in_err-e
unfolding field100 fields_in
returns-in_err-e c =
    let r = c.args.frame.bytes.now in
    let before = (goal.at.returns-in_err-e c).After-directory in
    rw c.from_residual.ensures (sym (no_field r 0 (entry_count r) (λ k l m. tag_of before false k (omega arith) (c.in_err-e.ensures k (omega (arith, count before))))))

pub returns : goal.returns
unfolding field100 fields_in
returns c =
    let r = c.args.frame.bytes.now in
    let before = (goal.at.returns c).After-directory in
    let e = c.in_ok-e.e in
    let found = c.in_ok-e.ensures in
    let inside : e < entry_count r = omega (arith, count before, found.0) in
    ap just c.field.ensures ∙ sym (field_of r 0 (entry_count r) e (omega arith) (omega arith) (tag_of before true e inside found.1) (λ k l m. tag_of before false k (omega arith) (found.2 k m)))
