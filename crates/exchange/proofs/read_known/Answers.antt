-- The list decides first, then the room, and then what the record has; the nodes are written last.
use mathlib.Core.Path.{refl, ◌∙◌}
use mathlib.Core.List.{List, [], ◌∷◌}
use Prim.Native.Nat.{ℕ}
use native.Mathlib.Omega.{arith}
use lib.ListN.{drop}
use Rattle.std.specs.Prelude.{Ok, Err, ◌++◌}
use Rattle.known_strings.specs.Checks.{CheckedAs}
use Rattle.exchange.specs.Heading.{ReadHeading}
use Rattle.exchange.specs.declared.Fault.TheVariants.{List as ListFault, Room}
use Rattle.exchange.proofs.Names.{fault_of, value_of}
use Rattle.exchange.proofs.Calls.{by_list, refuses, bad_list, no_room, rows_left, writes}
use Rattle.exchange.proofs.read_known.Goals as goal
use Rattle.exchange.proofs.read_known.Goals.{In_ok-tested}

-- the answer is one on the list that was tested
answered : (c : In_ok-tested) {text ends numbers : List ℕ} {absent : ℕ} → CheckedAs text ends numbers absent c.args.tested → CheckedAs text ends numbers absent (Ok c.in_ok-tested.tested)
answered c h = rw (value_of c.args.tested c.map_err.result ListFault c.map_err.ensures.cases c.in_ok-tested.tested c.in_ok-tested.was) at h

pub returns-in_err-tested : goal.returns-in_err-tested
returns-in_err-tested c = λ text ends numbers absent h.
    let a = c.args in
    let f = fault_of a.tested c.map_err.result ListFault c.map_err.ensures.cases c.in_err-tested.field-0.0 c.in_err-tested.was in
    refuses a.bytes.now text ends numbers a.heading absent a.nodes.now _ (ListFault f.0) c.from_residual.result c.from_residual.ensures.1 f.2
    (bad_list a.bytes.now text ends numbers a.heading absent a.nodes.now f.0 (rw f.1 at h))

pub returns-then-nodes-lt-NODES : goal.returns-then-nodes-lt-NODES
returns-then-nodes-lt-NODES c = λ text ends numbers absent h.
    let a = c.args in
    let t = c.in_ok-tested.tested in
    by_list t (λ x e n d. ReadHeading a.bytes.now x e n a.heading d a.nodes.now (Err Room) a.nodes.now)
    (refuses a.bytes.now _ _ _ a.heading t.absent a.nodes.now Room Room (Err Room) refl refl (no_room a.bytes.now t.known.text.now t.known.ends.now t.known.numbers.now a.heading t.absent a.nodes.now t.none_bad (omega arith)))
    text ends numbers absent (answered (goal.at.returns-then-nodes-lt-NODES c).In_ok-tested h)

pub returns-in_err-found : goal.returns-in_err-found
returns-in_err-found c = λ text ends numbers absent h.
    let a = c.args in
    let t = c.in_ok-tested.tested in
    let rows = rows_left a.bytes.now t.known.text.now t.known.ends.now t.known.numbers.now a.heading t.absent a.nodes.now t.none_bad (omega arith) in
    by_list t (λ x e n d. ReadHeading a.bytes.now x e n a.heading d a.nodes.now c.from_residual-in_err-found.result a.nodes.now)
    (refuses a.bytes.now _ _ _ a.heading t.absent a.nodes.now _ c.in_err-found.field-0.0 c.from_residual-in_err-found.result c.from_residual-in_err-found.ensures.1 refl (rows ∙ c.in_err-found.ensures))
    text ends numbers absent (answered (goal.at.returns-in_err-found c).In_ok-tested h)

pub returns : goal.returns
returns c = λ text ends numbers absent h.
    let a = c.args in
    let t = c.in_ok-tested.tested in
    rw c.copy_from_slice.ensures.after
    (by_list t (λ x e n d. ReadHeading a.bytes.now x e n a.heading d a.nodes.now (Ok tt) ((a.heading ∷ c.in_ok-found.found.name ∷ c.in_ok-found.found.dates ∷ []) ++ drop 3 a.nodes.now))
    (writes a.bytes.now _ _ _ a.heading t.absent a.nodes.now t.none_bad (omega arith) c.in_ok-found.found.name c.in_ok-found.found.dates c.in_ok-found.ensures)
    text ends numbers absent (answered (goal.at.returns c).In_ok-tested h))
