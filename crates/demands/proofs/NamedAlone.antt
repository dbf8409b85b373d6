-- No call but the degree of two symbol numbers gives 13: a call gives no number that none of its rows has, and the numbers of each call's rows are known.
use mathlib.Core.Path.{◌≡◌, ap}
use mathlib.Core.List.{List, map}
use mathlib.Core.Bool.{false}
use Rattle.meaning.specs.Refusals.{Row, row_number}
use Rattle.meaning.specs.Calls.{Answer}
use Rattle.meaning.specs.Demands.{Exactly}
use Rattle.meaning.proofs.First.{order}
use Rattle.marc.proofs.Headings.{heading_order}
use Rattle.demands.specs.Program.{Program}
use Rattle.demands.specs.Demand1.{Demand1}
use Rattle.demands.specs.Further.{Never13, NamedThereAlone}
use Rattle.demands.proofs.Exact.{among, of_refusal, no_row}

never : {A : Type 0} (rows : List Row) (answer : Answer A) → among 13 (map row_number rows) ≡ false → Exactly rows answer → Never13 answer
never rows answer h x place e = no_row 13 rows place h (of_refusal rows answer x 13 place e)

-- THEOREM
pub named_alone : (P : Program) → Demand1 P → NamedThereAlone P
named_alone P d =
    record {
      is_table_lem-is = λ table. never _ _ (ap (among 13) (order.is_table_lem-is table)) (d.is_table_lem-is table);
      heading_degree_lem = λ table one two. never _ _ (ap (among 13) (order.heading_degree_lem table one two)) (d.heading_degree_lem table one two);
      match = λ table pattern heading cut spans sets.
          never _ _ (ap (among 13) (order.match table pattern heading cut spans sets)) (d.match table pattern heading cut spans sets);
      write_table_lem-is = λ arities pairs output. never _ _ (ap (among 13) (order.writer arities pairs output)) (d.write_table_lem-is arities pairs output);
      arity_of_lem-is = λ table symbol. never _ _ (ap (among 13) (order.back table symbol _)) (d.arity_of_lem-is table symbol);
      pair_of_lem = λ table index. never _ _ (ap (among 13) (order.back table index _)) (d.pair_of_lem table index);
      widen = λ words output. never _ _ (ap (among 13) (order.widen words output)) (d.widen words output);
      marc_heading_lem = λ bytes text ends numbers heading absent nodes.
          never _ _ (ap (among 13) (heading_order bytes _ heading absent nodes)) (d.marc_heading_lem bytes text ends numbers heading absent nodes);
    }
