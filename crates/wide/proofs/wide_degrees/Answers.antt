-- The least row has what each symbol shares, and its lowest and highest are rated.
use Rattle.std.proofs.Common.{rules, arith, ◌∙◌}
use lib.ListN.{get_or-replicate}
use lib.Seq.{get_or-take}
use Rattle.meaning.specs.Limits.{set_room}
use Rattle.wide.proofs.wide_degrees.Goals as goal

pub lower_to_shared-requires-clause-whole : goal.lower_to_shared-requires-clause-whole
lower_to_shared-requires-clause-whole c =
    let t = c.args.table in
    (search rules, λ s l. get_or-take t.symbols _ s 0 (omega (arith, t.symbols_are)) ∙ get_or-replicate set_room s 1000 0 (omega (arith, t.symbols_are, t.few)))
