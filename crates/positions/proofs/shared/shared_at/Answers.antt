-- Each case is told by its function.
use Rattle.std.proofs.Common.{◌≡◌, Some, ap, ◌∙◌}
use Rattle.positions.specs.declared.faced.Faced.TheVariants.{Alone, Several}
use Rattle.positions.proofs.Sharing.{one_kept}
use Rattle.positions.proofs.shared.shared_at.Goals as goal
use Rattle.positions.proofs.shared.shared_at.Goals.{In-Some-Alone}

is_alone : (c : In-Some-Alone) → c.args.faced ≡ Some (Alone c.in-Some-Alone.symbol)
is_alone c = let v = c.in-Some-Alone in v.is ∙ ap Some (rw v.is at v.field-0-is)

pub shared_alone-requires : goal.shared_alone-requires
shared_alone-requires c = (one_kept _ (rw (is_alone (goal.at.shared_alone-requires c).In-Some-Alone) at c.requires)).0

pub returns-in-Some-Alone : goal.returns-in-Some-Alone
returns-in-Some-Alone c =
    let e = is_alone (goal.at.returns-in-Some-Alone c).In-Some-Alone in
    rw e (c.shared_alone.ensures c.args.symbols _ (one_kept c.in-Some-Alone.symbol (rw e at c.requires)).1)

pub returns-in-Some-Several : goal.returns-in-Some-Several
returns-in-Some-Several c =
    let e : c.args.faced ≡ Some (Several c.in-Some-Several.there) = let v = c.in-Some-Several in v.is ∙ ap Some (rw v.is at v.field-0-is) in
    rw e c.shared_by.ensures
