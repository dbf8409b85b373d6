-- The loop keeps what is known of the keys outside `low` to `high`; a key that is met has the degree beside it, and where `low` meets
-- `high`, no pair has the key.
use mathlib.Core.Path.{◌≡◌, sym, ◌∙◌}
use Prim.Native.Nat.{ℕ, ◌+◌, ◌/◌}
use native.Mathlib.Omega.{arith}
use Rattle.table.specs.Keys.{key_of}
use Rattle.degrees.proofs.Halving.{go_up, go_down, none_between}
use Rattle.degrees.specs.Sought.{key_at}
use Rattle.degrees.proofs.Listed.{keys_rise, degree_found, degree_missed}
use Rattle.degrees.proofs.Placed.{middle_below, middle_placed, key_placed, degree_placed}
use Rattle.degrees.proofs.listed_between.Goals as goal

pub key_from-found-requires : goal.key_from-found-requires
key_from-found-requires c = let l = c.loop-low in omega (arith, middle_placed c.args.table _ l.low l.high l.invariant (omega arith))

pub number_at-requires : goal.number_at-requires
number_at-requires c = let l = c.loop-low in omega (arith, middle_placed c.args.table _ l.low l.high l.invariant (omega arith))

pub returns-then-found-wanted : goal.returns-then-found-wanted
returns-then-found-wanted c =
    let t = c.args.table in
    let l = c.loop-low in
    let k : ℕ = (l.low + l.high) / 2 in
    let same : key_at t.file.now k ≡ key_of c.args.lower c.args.higher = sym (key_placed t k _ c.key_from-found.ensures) ∙ c.if-found-wanted.true ∙ c.key-wanted.ensures in
    degree_placed t k _ c.number_at.ensures
    ∙ sym (degree_found t.file.now t.sound c.args.lower c.args.higher (omega arith) k (middle_below _ l.low l.high (omega arith) l.invariant.within) same)

pub loop-low-preserved-then-found-wanted-2 : goal.loop-low-preserved-then-found-wanted-2
loop-low-preserved-then-found-wanted-2 c =
    let t = c.args.table in
    let l = c.loop-low in
    let k : ℕ = (l.low + l.high) / 2 in
    go_up _ _ (keys_rise t.file.now t.sound) _ _ _ k (middle_below _ l.low l.high (omega arith) l.invariant.within) l.invariant (omega (arith, key_placed t k _ c.key_from-found.ensures))

pub loop-low-preserved : goal.loop-low-preserved
loop-low-preserved c =
    let t = c.args.table in
    let l = c.loop-low in
    let k : ℕ = (l.low + l.high) / 2 in
    go_down _ _ (keys_rise t.file.now t.sound) _ _ _ k (middle_below _ l.low l.high (omega arith) l.invariant.within) l.invariant (omega (arith, key_placed t k _ c.key_from-found.ensures))

pub returns : goal.returns
returns c =
    let t = c.args.table in
    sym (degree_missed t.file.now t.sound c.args.lower c.args.higher c.requires.in_order
    (λ k l e. none_between _ _ _ _ _ c.loop-low.invariant (omega arith) k l (e ∙ sym c.key-wanted.ensures)))
