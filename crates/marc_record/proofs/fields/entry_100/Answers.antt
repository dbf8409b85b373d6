-- The entries are the chunks of the directory, and the first that passes the test is found.
use borrow.Author.Tests.{tests}
use Rattle.std.proofs.Common.{◌≡◌, ap, ◌∙◌, nat_eq, rules, arith}
use Rattle.std.specs.List.{starts_with}
use Rattle.std.specs.Slice.Iter.{chunks_exact_rest, chunks_exact_size}
use Rattle.marc.specs.Heading.{tag100}
use Rattle.marc_record.proofs.Chunks.{first_chunk}
use Rattle.marc_record.proofs.fields.entry_100.Goals as goal

pub returns : goal.returns
returns c =
    let run = c.position.ensures.runs in
    let size : chunks_exact_size run.0.from ≡ 12 = ap chunks_exact_size run.1 ∙ c.chunks_exact.ensures.size in
    let rest : chunks_exact_rest run.0.from ≡ c.args.directory.now = ap chunks_exact_rest run.1 ∙ c.chunks_exact.ensures.rest in
    let chunks = rw (size, rest) at (c.chunks_exact.ensures.runs run.0 run.0.seen (omega arith)) in
    first_chunk run.0 c.args.directory.now chunks _ _ (λ x. starts_with nat_eq x tag100) (λ x b q k. search (rules, tests)) c.position.result run.2
