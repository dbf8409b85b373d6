-- All is laid out now, no degrees are kept, and the mark is set last.
use Rattle.std.proofs.Common.{rules, arith, ◌≡◌, ◌*◌, length, refl, ◌∙◌}
use Rattle.wide.specs.Index.{kept_rows, linked_at}
use Rattle.wide.proofs.Written.{cleared}
use Rattle.wide.proofs.Chains.{marked}
use Rattle.wide.proofs.Keeping.{place_within}
use Rattle.wide.proofs.links.link_pairs.Goals as goal

pub returns : goal.returns
returns c =
    let t = c.args.table in
    let long : length c.lay_links.new.index ≡ length c.args.index.now = c.lay_links.auto.index ∙ c.lay_rows.auto.rows in
    let within = place_within t.file.now c.args.index.now c.requires.1 c.requires.0.room 0 (omega arith) in
    let no_tags = cleared c.tags-tags.result _ kept_rows _ c.lay_links.new.index refl (omega (arith, within, long, c.tags-tags.ensures)) (c.fill.ensures.after (search rules)) in
    let mark_is : 2 * t.symbols ≡ linked_at t.file.now = omega (arith, t.symbols_are) in
    marked t.file.now t.sound _ _ mark_is c.tags-tags.ensures _ _ no_tags.long (omega (arith, c.requires.0.room, long, no_tags.long)) no_tags c.lay_links.ensures.0 c.lay_links.ensures.1
