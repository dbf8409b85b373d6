-- Each symbol of the heading is alone in its set at first. After k turns its set is what the first k pairs make it.
use mathlib.Core.Path.{◌≡◌, ◌∙◌}
use Prim.Native.Nat.{◌*◌, ◌≤◌}
use native.Mathlib.Omega.{arith}
use lib.ListN.{length}
use Rattle.meaning.specs.File.{pair_count_lem, pair_at, table_in}
use Rattle.meaning.specs.Tables.{pair_start, lower_at, higher_at, degree_at}
use Rattle.meaning.proofs.Bytes.{pair_in_lem}
use Rattle.meaning.proofs.Sound.{sound}
use Rattle.table.specs.Read.{pair_in}
use Rattle.near.specs.Near.{near_words}
use Rattle.near.proofs.Nearness.{near_next, near_all, pair_symbols}
use Rattle.near.proofs.near_sets.Goals as goal
use Rattle.near.proofs.near_sets.Goals.{After-pair}

-- the pair that was read is pair k
read : (c : After-pair) → pair_in c.pair.result ≡ pair_at c.args.table.file.now (pair_start c.args.table.file.now c.loop-k.k)
read c = c.pair.ensures ∙ pair_in_lem c.args.table.file.now c.loop-k.k (omega (arith, c.args.table.pairs_are))

pub join_pair-requires : goal.join_pair-requires
join_pair-requires c =
    let table = c.args.table in
    let file = c.args.table.file.now in
    let k = c.loop-k.k in
    let symbols = pair_symbols file c.args.cut table.sound k (omega (arith, table.pairs_are)) in
    let is = read (goal.at.join_pair-requires c).After-pair in
    let few = (sound file table.sound).small in
    let l : c.pair.result.lower ≡ lower_at file k = cc in
    let h : c.pair.result.higher ≡ higher_at file k = cc in
    let d : c.pair.result.degree ≡ degree_at file k = cc in
    let there : near_words * (table_in file).size ≤ length c.loop-k.near = omega (arith, c.requires.fresh.room, c.open_sets.auto.near) in
    record { lower_lt_set_room = (omega arith, omega arith, omega arith); lower_in_bounds = (omega arith, omega arith) }

pub loop-k-preserved : goal.loop-k-preserved
loop-k-preserved c =
    let table = c.args.table in
    let file = c.args.table.file.now in
    let cut = c.args.cut in
    let k = c.loop-k.k in
    let is = read (goal.at.loop-k-preserved c).After-pair in
    let degree_top = (pair_symbols file cut table.sound k (omega (arith, table.pairs_are))).2 in
    let next = near_next file cut k _ _ _ c.loop-k.near c.join_pair.new.near is degree_top c.join_pair.ensures in
    (c.join_pair.auto.near ∙ c.loop-k.invariant.0, λ i l. next _ (c.loop-k.invariant.1 i l))

pub returns : goal.returns
returns c i l =
    let table = c.args.table in
    let cut = c.requires.cut_in_range in
    let e : c.loop-k.k ≡ pair_count_lem table.file.now = omega (arith, table.pairs_are) in
    near_all table.file.now c.args.cut table.sound cut.0 cut.1 _ _ (c.requires.by_index i l) (rw e at (c.loop-k.invariant.1 i l))
