-- The promises are equations with the meaning, and what an answer says names it; each call's own proof stands in its crate.
use Rattle.tables.proofs.OneTable.{one_table, one_symbol_degree, one_arity, one_pair_at}
use Rattle.headings.proofs.OneTerm.{one_degree, one_subterm, one_nearer, one_choice}
use Rattle.matches.proofs.OneMatch.{one_match}
use Rattle.tables.proofs.OneWriting.{one_writing}
use Rattle.records.proofs.OneRecords.{one_writing as one-of-records}
use Rattle.saved.proofs.OneWidening.{one_widening}
use Rattle.exchange.proofs.OneHeading.{one_heading}
use Rattle.demands.specs.Unique.{Unique}

-- THEOREM
pub unique : Unique
unique =
    record {
      is_table_lem-is = one_table;
      symbol_degree_lem-is = one_symbol_degree;
      heading_degree_lem = one_degree;
      subterm = λ table term index r s p q. let e = one_subterm table term index r s p q in (e.holds, e.lies);
      nearer = λ table heading one two r s p q. let e = one_nearer table heading one two r s p q in (e.holds, e.lies);
      choose = one_choice;
      match = one_match;
      write_records_lem-is = one-of-records;
      write_table_lem-is = one_writing;
      arity_of_lem-is = one_arity;
      pair_of_lem = one_pair_at;
      widen = one_widening;
      marc_heading_lem = one_heading;
    }
