-- The walk stands on the chain, whose links are those of the index, or behind it.
use Rattle.std.proofs.Common.{arith, ◌≡◌, ℕ, ◌+◌, ◌-◌, ◌<◌, eqb, get_or, length-set, refl, ap, ◌∙◌}
use Rattle.meaning.specs.File.{pair_count_lem}
use Rattle.meaning.specs.Tables.{higher_at}
use Rattle.meaning.proofs.First.{last_below_lem}
use Rattle.degrees.proofs.Listed.{pair_symbols}
use Rattle.wide.specs.Index.{last_with, links_at}
use Rattle.wide.proofs.Laying.{read}
use Rattle.wide.proofs.Walking.{chain_head, chain_next, chain_end}
use Rattle.wide.proofs.row.lay_chain.Goals as goal
use Rattle.wide.proofs.row.lay_chain.Goals.{In-loop-next}

module _ (c : In-loop-next) where
  -- the pair of this turn
  abbrev k : ℕ
  k = c.loop-next.next - 1

  below : k < pair_count_lem c.args.table.file.now
  below = omega (arith, c.loop-next.invariant.1.within)

  -- its link
  linked : get_or c.args.index.now (c.links-links.result + c.loop-next.next - 1) 0 ≡ last_with c.args.table.file.now (higher_at c.args.table.file.now k) k
  linked =
      let at : c.links-links.result + c.loop-next.next - 1 ≡ links_at c.args.table.file.now + k = omega (arith, c.links-links.ensures) in
      ap (λ i. get_or c.args.index.now i 0) at ∙ (c.requires.chained.0.0.linked c.requires.chained.0.1).links k below

pub loop-next-init : goal.loop-next-init
loop-next-init c =
    let t = c.args.table in
    let linked = c.requires.chained.0.0.linked c.requires.chained.0.1 in
    let head = ap (λ n. get_or c.args.index.now (n + c.args.a) 0) c.heads.ensures ∙ linked.heads c.args.a c.requires.chained.1 in
    (refl, chain_head t.file.now t.sound c.args.a _ _ head c.requires.laid)

pub bounds-row-pair : goal.bounds-row-pair
bounds-row-pair c =
    let t = c.args.table in
    let turn = (goal.at.bounds-row-pair c).In-loop-next in
    let is = read t.file.now (k turn) (below turn) c.pair-pair.ensures in
    omega (arith, is.0, (pair_symbols t.file.now t.sound (k turn) (below turn)).0, c.loop-next.invariant.1.laid.room)

pub loop-next-smaller : goal.loop-next-smaller
loop-next-smaller c =
    let turn = (goal.at.loop-next-smaller c).In-loop-next in
    omega (arith, linked turn, (last_below_lem (λ j. eqb (higher_at c.args.table.file.now j) (higher_at c.args.table.file.now (k turn))) (k turn)).within)

pub loop-next-preserved : goal.loop-next-preserved
loop-next-preserved c =
    let t = c.args.table in
    let loop = c.loop-next in
    let turn = (goal.at.loop-next-preserved c).In-loop-next in
    let is = read t.file.now (k turn) (below turn) c.pair-pair.ensures in
    let more = chain_next t.file.now t.sound c.args.a loop.next _ loop.row (omega arith) (linked turn) loop.invariant.1 in
    (rw length-set loop.invariant.0, rw (is.0, is.2) more)

pub returns : goal.returns
returns c =
    let t = c.args.table in
    let e : c.loop-next.next ≡ 0 = omega arith in
    chain_end t.file.now t.sound c.args.a c.loop-next.row c.requires.chained.1 (rw e at c.loop-next.invariant.1)
