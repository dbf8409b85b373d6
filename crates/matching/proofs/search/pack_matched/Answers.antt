-- A clash refuses the search. Otherwise near sets are gathered where they are asked for, and with the spans cleared all variables are packed; what is packed fits
-- into the sets, since subterms that face different nodes never overlap.
use mathlib.Core.Path.{◌≡◌, sym, ap, ◌∙◌}
use mathlib.Core.Option.{some as just}
use native.Mathlib.Omega.{arith}
use Rattle.theory.specs.Match.{clash}
use Rattle.meaning.specs.File.{table_in}
use Rattle.meaning.specs.Calls.{zeros, faces_in}
use Rattle.facing.specs.Faced.{ClearBy}
use Rattle.facing.specs.Notes.{numbers_of}
use Rattle.facing.proofs.Faced.{clash-told, clear_told}
use Rattle.wide.proofs.Chains.{index_laid}
use Rattle.packing.specs.Pack.{PackedAll}
use Rattle.packing.proofs.Notes.{packable_asked, symbols}
use Rattle.matching.proofs.Searched.{rooms, clash_inside, clash_ends, fits, lacks, keeps}
use Rattle.matching.proofs.search.pack_matched.Goals as goal
use Rattle.matching.proofs.search.pack_matched.Goals.{In-Err, In-Ok, After-pack-found}

-- ---- a clash

clashes : (c : goal.In-Err)
    → let a = c.args.asked in
    clash (table_in a.table.file.now) a.cut (faces_in a.table.file.now a.pattern.now a.heading.now) ≡ just c.in-Err.node
clashes c =
    let a = c.args.asked in
    clash-told a.table.file.now a.cut a.pattern.now a.heading.now _ c.in-Err.is c.face.ensures.faced_by

pub overflow_cast-result : goal.overflow_cast-result
overflow_cast-result c = omega (arith, clash_inside c.args.asked _ (clashes (goal.at.overflow_cast-result c).In-Err))

pub returns-in-Err-clause-refused : goal.returns-in-Err-clause-refused
returns-in-Err-clause-refused c =
    let a = c.args in
    sym (clash_ends a.asked a.spans.now a.sets.now c.requires.accepted _ (clashes (goal.at.returns-in-Err-clause-refused c).In-Err))

-- ---- no clash

cleared : (c : goal.In-Ok) → let a = c.args.asked in ClearBy a.table.file.now a.cut a.pattern.now a.heading.now c.in-Ok.least (numbers_of c.face.new.notes)
cleared c = let a = c.args.asked in clear_told a.table.file.now a.cut a.pattern.now a.heading.now _ c.in-Ok.is c.face.ensures.faced_by

pub gather_near-requires : goal.gather_near-requires
gather_near-requires c =
    record { fresh = (c.requires.fresh.0, c.args.asked.some_cut, c.args.asked.top_cut); by_index = symbols (packable_asked c.args.asked (cleared (goal.at.gather_near-requires c).In-Ok)) }

pub pack-found-requires : goal.pack-found-requires
pack-found-requires c =
    let lent = rooms c.args.asked c.args.spans.now c.args.sets.now c.requires.accepted in
    let emptied = c.fill in
    let clear = cleared (goal.at.pack-found-requires c).In-Ok in
    record {
      index = (
        index_laid c.open_index.ensures c.face.ensures.rows_laid c.face.auto.rows,
        record {
          of_notes = omega (arith, c.face.auto.notes, c.requires.pattern_in_bounds.0);
          of_own = c.requires.pattern_in_bounds.1;
          of_spans = omega (arith, lent.0, emptied.auto.self);
          of_sets = lent.1;
        },
      );
      least_value = clear.lowest;
      spans_value = emptied.ensures.after (λ y e. e) ∙ ap zeros (sym emptied.auto.self);
      packable_at = record { cut = c.args.asked.cut; packable = packable_asked c.args.asked clear; gathered = c.gather_near.ensures };
    }

-- ---- what is packed

module _ (c : goal.After-pack-found) where
  clear_here : let a = c.args.asked in ClearBy a.table.file.now a.cut a.pattern.now a.heading.now c.in-Ok.least (numbers_of c.face.new.notes)
  clear_here = let a = c.args.asked in clear_told a.table.file.now a.cut a.pattern.now a.heading.now _ c.in-Ok.is c.face.ensures.faced_by

  packed_all : let a = c.args.asked in PackedAll (table_in a.table.file.now) a.cut (faces_in a.table.file.now a.pattern.now a.heading.now) c.pack-found.result c.pack-found.new.spans c.args.sets.now c.pack-found.new.sets
  packed_all = c.pack-found.ensures c.args.asked.cut (packable_asked c.args.asked clear_here) c.gather_near.ensures

pub returns-in-Some-clause-refused : goal.returns-in-Some-clause-refused
returns-in-Some-clause-refused c =
    let here = (goal.at.returns-in-Some-clause-refused c).After-pack-found in
    let a = c.args in
    sym (lacks a.asked a.spans.now a.sets.now c.requires.accepted (clear_here here).clear _ _ _ (packed_all here) c.in-Some.v c.in-Some.is)

pub returns-in-None-clause-inside : goal.returns-in-None-clause-inside
returns-in-None-clause-inside c =
    let here = (goal.at.returns-in-None-clause-inside c).After-pack-found in
    let lent = rooms c.args.asked c.args.spans.now c.args.sets.now c.requires.accepted in
    omega (arith, lent.1, (packed_all here).packed, fits c.args.asked (clear_here here).clear)

pub returns-in-None-clause-matched : goal.returns-in-None-clause-matched
returns-in-None-clause-matched c =
    let here = (goal.at.returns-in-None-clause-matched c).After-pack-found in
    let a = c.args in
    keeps a.asked a.spans.now a.sets.now c.requires.accepted (clear_here here).clear _ _ _ (packed_all here) c.in-None.is
    (c.pack-found.auto.spans ∙ c.fill.auto.self) c.pack-found.auto.sets
