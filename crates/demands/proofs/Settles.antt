-- The other direction: demand 1, demand 2 and the further statements leave nothing open. A program that meets them keeps every promise, since of two
-- programs that meet them each call gives the same, and the meaning's program meets them, with lists handed back in one way that is allowed. So no wrong
-- program is left that they allow.
use mathlib.Core.Path.{◌≡◌}
use mathlib.Core.List.{List}
use Prim.Native.Nat.{ℕ}
use Rattle.meaning.specs.Calls.{heading_degree}
use Rattle.demands.specs.Program.{Program, Promise}
use Rattle.demands.specs.Demand1.{Demand1}
use Rattle.demands.specs.Demand2.{Demand2}
use Rattle.demands.specs.Demand3.{Demand3}
use Rattle.demands.specs.Further.{Further}
use Rattle.demands.proofs.Meant.{meant}
use Rattle.demands.proofs.Handing.{handed, handed_well}
use Rattle.demands.proofs.Demand1.{demand1}
use Rattle.demands.proofs.Demands.{demand2}
use Rattle.demands.proofs.Further.{further}
use Rattle.demands.proofs.Keeps.{keeps}
use Rattle.demands.proofs.Settled.{same_is_table, same_symbol_degree, same_heading_degree, settled-subterm, settled-nearer}
use Rattle.demands.proofs.SettledFiles.{same_arity_of, same_pair_of, same_writing, same_widening}
use Rattle.demands.proofs.SettledRecords.{same_record_heading}
use Rattle.demands.proofs.Stated.{stated}
use Rattle.demands.proofs.SettledMatch.{same_match}

-- the meaning's program meets them
abbrev M : Program
M = meant handed

one' : Demand1 M
one' = demand1 handed handed_well

two' : Demand2 M
two' = demand2 handed

more' : Further M
more' = further handed handed_well

module _ (P : Program) (one : Demand1 P) (two : Demand2 P) (more : Further P) where
  degrees : (table left right : List ℕ) → P.heading_degree table left right ≡ heading_degree table left right
  degrees = same_heading_degree P M one one' two two' more more'

  -- THEOREM
  pub settles : Promise P
  settles =
      record {
        is_table_lem-is = same_is_table P M one one' two two' more more';
        symbol_degree_lem-is = same_symbol_degree P M one one' two two' more more';
        heading_degree_lem = degrees;
        subterm = settled-subterm P one more.handed_back;
        nearer = settled-nearer P one more.handed_back degrees;
        match = λ table pattern heading cut spans sets.
            same_match table pattern heading cut spans sets _ _
            (stated P one two table pattern heading cut spans sets (more.matches table pattern heading cut spans sets))
            (stated M one' two' table pattern heading cut spans sets (more'.matches table pattern heading cut spans sets));
        write_table_lem-is = same_writing P M one one' more more';
        arity_of_lem-is = same_arity_of P M one one' more more';
        pair_of_lem = same_pair_of P M one one' more more';
        widen = same_widening P M one one' more more';
        marc_heading_lem = same_record_heading P M one one' more more';
      }

  -- THEOREM: demand 3 follows from them
  pub third_follows : Demand3 P
  third_follows = (keeps P settles).2
