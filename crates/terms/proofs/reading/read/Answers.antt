-- The loop keeps that what is left to be read, on the level at hand and on those around it, comes to what the walk over the whole term does. So what
-- ends the loop, or a level, is what ends that walk.
use borrow.Author.Rules.{rules}
use mathlib.Core.Path.{◌≡◌, sym, ap, ◌∙◌}
use mathlib.Core.Option.{Option as Asked, none, some as just}
use Prim.Native.Nat.{ℕ}
use native.Mathlib.Omega.{arith}
use lib.ListN.{length}
use Rattle.std.specs.Prelude.{Option, Some, None, Result, Ok, Err}
use Rattle.std.specs.Option.{ok_or}
use Rattle.meaning.specs.File.{table_in}
use Rattle.std.proofs.lemmas.Result.{err_from_is_err_and}
use Rattle.theory.specs.Read.{faulty}
use Rattle.terms.specs.Heads.{takes_in}
use Rattle.terms.specs.Levels.{up_to}
use Rattle.terms.proofs.Levels.{first_node, list_ends_lem, node_strays, level_opens, too_deep, next_beside, next_around, term_ends}
use Rattle.terms.proofs.Readings.{all_of_it, more_after, fault_in}
use Rattle.terms.proofs.reading.read.Goals as goal
use Rattle.terms.proofs.reading.read.Goals.{then-arguments-gt0+else-depth-eq-MOST_AROUND, else-arguments-gt0+then-here-eq0+in-Some, else-arguments-gt0+else-here-eq0}

-- what the head's answer says, by what became of it
takes : (o : Option ℕ) (d n : ℕ) (r : Result ℕ ℕ) {w : Asked ℕ} → takes_in o ≡ w → r ≡ ok_or o d → r ≡ Ok n → w ≡ just n
takes (Some m) d n r e q is = let same : m ≡ n = cc in sym e ∙ ap just same
takes None d n r e q is = absurd (let z : ◌≡◌ {A = Result ℕ ℕ} (Err d) (Ok n) = cc in let w : ◌≡◌ {A = ℕ} 0 1 = cc in omega arith)

strays : (o : Option ℕ) (d i : ℕ) (r : Result ℕ ℕ) {w : Asked ℕ} → takes_in o ≡ w → r ≡ ok_or o d → r ≡ Err i → (w ≡ none) × (i ≡ d)
strays (Some m) d i r e q is = absurd (let z : ◌≡◌ {A = Result ℕ ℕ} (Ok m) (Err i) = cc in let w : ◌≡◌ {A = ℕ} 0 1 = cc in omega arith)
strays None d i r e q is = (sym e, cc)

pub loop-at-init : goal.loop-at-init
loop-at-init c = first_node _ _ _ _ (search rules)

pub returns-in_err-arguments : goal.returns-in_err-arguments
returns-in_err-arguments c =
    let a = c.args in
    let barred = strays c.head_of.result _ _ _ c.head_of.ensures c.ok_or.ensures.value c.in_err-arguments.was in
    let faulty = fault_in (table_in a.table.file.now) a.variables a.list.now (omega arith) _ (node_strays _ _ _ _ _ _ _ c.loop-at.invariant barred.0) in
    let gave = err_from_is_err_and c.from_residual.result c.from_residual.ensures.1 in
    rw (gave.1, gave.2) (rw barred.1 faulty)

pub returns-then-depth-eq-MOST_AROUND : goal.returns-then-depth-eq-MOST_AROUND
returns-then-depth-eq-MOST_AROUND c =
    let a = c.args in
    let more = takes c.head_of.result _ _ _ c.head_of.ensures c.ok_or.ensures.value c.in_ok-arguments.was in
    fault_in (table_in a.table.file.now) a.variables a.list.now (omega arith) _ (too_deep _ _ _ _ _ _ _ c.loop-at.invariant _ (omega arith) more (omega arith) (omega arith))

pub returns-then-next-list : goal.returns-then-next-list
returns-then-next-list c =
    let a = c.args in
    let more = takes c.head_of.result _ _ _ c.head_of.ensures c.ok_or.ensures.value c.in_ok-arguments.was in
    let ended = term_ends _ _ _ _ _ _ _ c.loop-at.invariant _ (omega arith) more (omega arith) (omega arith) _ c.innermost_open.ensures (ap up_to c.in_default.is) in
    all_of_it (table_in a.table.file.now) a.variables a.list.now (omega arith) _ ended (omega arith)

pub returns-else-next-list : goal.returns-else-next-list
returns-else-next-list c =
    let a = c.args in
    let more = takes c.head_of.result _ _ _ c.head_of.ensures c.ok_or.ensures.value c.in_ok-arguments.was in
    let ended = term_ends _ _ _ _ _ _ _ c.loop-at.invariant _ (omega arith) more (omega arith) (omega arith) _ c.innermost_open.ensures (ap up_to c.in_default.is) in
    more_after (table_in a.table.file.now) a.variables a.list.now (omega arith) _ ended (λ e. omega arith)

pub loop-at-preserved : goal.loop-at-preserved
loop-at-preserved c =
    let more = takes c.head_of.result _ _ _ c.head_of.ensures c.ok_or.ensures.value c.in_ok-arguments.was in
    elim c.if-arguments-gt0.branch [
      | then-arguments-gt0+else-depth-eq-MOST_AROUND w ↦
          rw (w.outer-is, w.depth-is, w.here-is) (level_opens _ _ _ _ _ _ _ c.loop-at.invariant _ (omega arith) more (omega (arith, c.loop-at.invariant.shallow)) (omega arith))
      | else-arguments-gt0+then-here-eq0+in-Some w ↦
          rw (w.outer-is, w.depth-is, w.here-is) (next_around _ _ _ _ _ _ _ c.loop-at.invariant _ (omega arith) more (omega arith) (omega arith) _ w.innermost_open.ensures _ (ap up_to w.in-Some.is))
      | else-arguments-gt0+else-here-eq0 w ↦
          rw (w.outer-is, w.depth-is, w.here-is) (next_beside _ _ _ _ _ _ _ c.loop-at.invariant _ (omega arith) more (omega arith) (omega arith))
    ]

pub returns : goal.returns
returns c =
    let a = c.args in
    let all : c.loop-at.at ≡ length a.list.now = omega (arith, c.loop-at.invariant.within) in
    ap faulty (sym all) ∙ fault_in (table_in a.table.file.now) a.variables a.list.now (omega arith) _ (list_ends_lem _ _ _ _ _ _ _ c.loop-at.invariant (omega arith))
