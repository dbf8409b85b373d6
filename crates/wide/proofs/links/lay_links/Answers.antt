-- The loop keeps that the pairs before k are chained, and what stands before the heads is not touched.
use Rattle.std.proofs.Common.{rules, arith, ◌≡◌, ◌+◌, ◌-◌, ◌<◌, ◌≤◌, length, length-set, ◌∙◌}
use Rattle.meaning.specs.File.{pair_count_lem, table_in}
use Rattle.meaning.specs.Tables.{higher_at}
use Rattle.meaning.proofs.Bits.{get_or_zeros}
use Rattle.meaning.specs.Calls.{zeros}
use Rattle.degrees.proofs.Listed.{pair_symbols}
use Rattle.wide.specs.Index.{heads_at, links_at, index_room}
use borrow.Rule.Slice.PartMut.{put_mid}
use Rattle.wide.proofs.Written.{Written, cleared}
use Rattle.wide.proofs.Laying.{read}
use Rattle.wide.proofs.Chains.{rows_kept, none_linked, linked_next, rows_next}
use Rattle.wide.proofs.links.lay_links.Goals as goal
use Rattle.wide.proofs.links.lay_links.Goals.{After-fill, After-pair}

-- zeros lie where the heads are
no_heads : (c : After-fill) → Written c.heads-heads.result (table_in c.args.table.file.now).size (zeros (table_in c.args.table.file.now).size) c.args.index.now
    (put_mid c.heads-heads.result (c.links-links.result - c.heads-heads.result) c.args.index.now c.fill.new.self)
no_heads c =
    cleared _ _ _ _ c.args.index.now (omega (arith, c.heads-heads.ensures, c.links-links.ensures)) (omega (arith, c.links-links.ensures, c.requires.1)) (c.fill.ensures.after (search rules))

pub loop-k-init : goal.loop-k-init
loop-k-init c =
    let t = c.args.table in
    let lie = no_heads (goal.at.loop-k-init c).After-fill in
    let heads = c.heads-heads.ensures in (
      lie.long,
      rows_kept t.file.now t.sound _ _ lie.long (λ i l. lie.same_before i (omega arith)) c.requires.0,
      none_linked t.file.now t.sound _ (omega (arith, lie.long, c.requires.1)) (λ i l m.
          let e : i ≡ c.heads-heads.result + (i - c.heads-heads.result) = omega arith in
          rw e (lie.there (i - c.heads-heads.result) (omega arith) ∙ get_or_zeros (table_in t.file.now).size (i - c.heads-heads.result))),
    )

module _ (c : After-pair) where
  below : c.loop-k.k < pair_count_lem c.args.table.file.now
  below = omega (arith, c.args.table.pairs_are)

  -- the head of its chain
  head_is : c.heads-heads.result + c.pair.result.higher ≡ heads_at c.args.table.file.now + higher_at c.args.table.file.now c.loop-k.k
  head_is = omega (arith, c.heads-heads.ensures, (read c.args.table.file.now c.loop-k.k below c.pair.ensures).1)

  -- which is one of the table's
  higher : higher_at c.args.table.file.now c.loop-k.k < (table_in c.args.table.file.now).size
  higher = (pair_symbols c.args.table.file.now c.args.table.sound c.loop-k.k below).1

  -- the list is as long as it was
  room : index_room c.args.table.file.now ≤ length c.loop-k.index
  room = omega (arith, c.requires.1, c.loop-k.invariant.0)

pub bounds-index-head : goal.bounds-index-head
bounds-index-head c =
    let turn = (goal.at.bounds-index-head c).After-pair in
    omega (arith, head_is turn, higher turn, room turn)

pub bounds-index-head-in-loop-k : goal.bounds-index-head-in-loop-k
bounds-index-head-in-loop-k c =
    let turn = (goal.at.bounds-index-head-in-loop-k c).After-pair in
    rw length-set (omega (arith, head_is turn, higher turn, room turn))

pub loop-k-preserved : goal.loop-k-preserved
loop-k-preserved c =
    let t = c.args.table in
    let turn = (goal.at.loop-k-preserved c).After-pair in
    let loop = c.loop-k in
    let link_is : c.links-links.result + loop.k ≡ links_at t.file.now + loop.k = omega (arith, c.links-links.ensures) in (
      rw (length-set, length-set) loop.invariant.0,
      rows_next t.file.now t.sound loop.k _ _ (below turn) (head_is turn) link_is loop.index (room turn) loop.invariant.1,
      linked_next t.file.now t.sound loop.k _ _ (below turn) (head_is turn) link_is loop.index (room turn) loop.invariant.2,
    )
