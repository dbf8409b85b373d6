-- Where they have room, all the records' numbers are copied, and the writer on numbers makes of them what the pairs give.
use Rattle.std.proofs.Common.{arith}
use Rattle.records.proofs.Steps.{all_laid}
use Rattle.records.proofs.Listing.{length-listed}
use Rattle.records.specs.Records.{listed}
use Rattle.records.proofs.write_by.Goals as goal

pub returns : goal.returns
returns c =
    let records = c.args.pairs.now in
    let laid = all_laid records c.args.numbers.now c.fitting-count.result c.fitting-count.ensures.2 c.copy_records.new.numbers c.copy_records.ensures (λ few. c.requires (omega (arith, length-listed records))) in
    record {
      answers = c.write_first.ensures.result_value (listed records) (length-listed records) laid;
      leaves = c.write_first.ensures.output_after (listed records) (length-listed records) laid;
    }
