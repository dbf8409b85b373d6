-- After k turns the first k positions are packed, of whatever terms stand where the notes say; the index stays one.
use borrow.Author.Rules.{rules}
use mathlib.Core.Path.{◌≡◌, refl, sym as inv, ◌∙◌}
use mathlib.Core.Bool.{false, cond}
use native.Mathlib.Omega.{arith}
use Rattle.theory.specs.Match.{positions as positionsOf}
use Rattle.meaning.specs.Limits.{set_words_lem}
use Rattle.table.specs.Sound.{table_of}
use Rattle.sets.specs.Words.{Words}
use Rattle.sets.proofs.Laws.{words_of}
use Rattle.wide.proofs.Chains.{index_laid}
use Rattle.variable.proofs.Positions.{positions-first, packed_none, packed_next}
use Rattle.variable.proofs.Shared.{looked_kept, looked_below, degrees_fall, position}
use Rattle.variable.proofs.pack_shared.Goals as goal
use Rattle.variable.proofs.pack_shared.Goals.{then-is_empty, else-is_empty}

pub loop-k-init : goal.loop-k-init
loop-k-init c =
    let laid = c.lay_where_worth in
    (omega arith, refl, refl, index_laid c.requires.own_notes.0 laid.ensures laid.auto.rows, omega arith, omega arith, λ ts cut g known. packed_none _ _ ts _)

pub faced_at-faced-requires : goal.faced_at-faced-requires
faced_at-faced-requires c =
    let own = c.requires.own_notes.1 in
    record { within = (own.within, λ i l. (own.covers i l).3); notes_nonzero = (own.some, omega (arith)) }

pub shared_at-shared-requires : goal.shared_at-shared-requires
shared_at-shared-requires c =
    let t = c.args.table in
    looked_kept c.requires.own_notes.1 c.faced_at-faced.result c.faced_at-faced.ensures t.symbols_are (omega (arith, t.few))

pub degrees_at-degrees-requires : goal.degrees_at-degrees-requires
degrees_at-degrees-requires c =
    record {
      index = (c.loop-k.invariant.3, c.loop-k.invariant.4, c.loop-k.invariant.5);
      alone_below = looked_below c.requires.own_notes.1 c.faced_at-faced.result c.faced_at-faced.ensures (omega arith);
    }

pub loop-k-preserved : goal.loop-k-preserved
loop-k-preserved c =
    let loop = c.loop-k in
    let own = c.requires.own_notes.1 in
    let set : Words set_words_lem c.shared_at-shared.result.set.words = search (rules, words_of) in
    let form_is : c.if-is_empty.formed ≡ cond c.is_empty.result false c.loop-k.formed = elim c.if-is_empty.branch [ then-is_empty w ↦ rw w.if-is_empty.true w.formed-is | else-is_empty w ↦ rw w.if-is_empty.false w.formed-is ] in
    let degrees = c.degrees_at-degrees in
    let falls = degrees_fall (table_of c.args.table) c.faced_at-faced.result c.shared_at-shared.result.set.words c.shared_at-shared.result.floor degrees.ensures.degrees_at in (
      omega arith,
      degrees.auto.index ∙ loop.invariant.1,
      c.put.auto.list ∙ loop.invariant.2,
      degrees.ensures.index,
      omega (arith, falls.0, loop.invariant.4),
      omega (arith, falls.1, loop.invariant.5),
      λ ts cut g known.
          let here = position own known g loop.k c.faced_at-faced.result c.shared_at-shared.result loop.degrees degrees.result (inv c.args.table.symbols_are)
          loop.invariant.4 c.faced_at-faced.ensures c.shared_at-shared.ensures degrees.ensures.degrees_at in
          packed_next _ cut ts _ loop.k c.shared_at-shared.result.set.words c.is_empty.result (loop.invariant.6 ts cut g known) (omega (arith, c.requires.notes_in_bounds)) set
          here.set_is c.put.ensures c.is_empty.ensures form_is here.lowest_is here.highest_is,
    )

pub returns : goal.returns
returns c =
    let own = c.requires.own_notes.1 in record {
      index = c.loop-k.invariant.3;
      variable_packed = λ ts g cut known.
          let e : c.loop-k.k ≡ positionsOf ts = omega (arith, positions-first c.args.notes.now g own.some) in
          rw e at (c.loop-k.invariant.6 ts cut g known);
    }
