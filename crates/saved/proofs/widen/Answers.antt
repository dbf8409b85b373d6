-- After p turns the sets of the first p positions lie over the output.
use mathlib.Core.Path.{◌≡◌, ap, ap₂, ◌∙◌}
use mathlib.Core.List.{List}
use Prim.Native.Nat.{ℕ, ◌*◌, ◌/◌}
use native.Mathlib.Omega.{arith}
use lib.ListN.{length}
use Rattle.meaning.specs.Limits.{set_words_lem}
use Rattle.meaning.specs.Packing.{through}
use Rattle.meaning.specs.Saved.{saved_words, widened_set}
use Rattle.meaning.specs.Over.{over}
use Rattle.meaning.proofs.Over.{over_none}
use Rattle.saved.proofs.Widening.{uneven, short, set_more, all_put}
use Rattle.saved.proofs.widen.Goals as goal

pub returns-then-words-ne0 : goal.returns-then-words-ne0
returns-then-words-ne0 c = let a = c.args in uneven a.words.now a.output.now (λ e. omega arith)

pub returns-then-output-words : goal.returns-then-output-words
returns-then-output-words c = let a = c.args in short a.words.now a.output.now (omega arith) (omega arith)

pub loop-position-init : goal.loop-position-init
loop-position-init c = over_none c.args.output.now 0

pub loop-position-preserved : goal.loop-position-preserved
loop-position-preserved c =
    let a = c.args in
    let loop = c.loop-position in
    c.put.ensures
    ∙ ap₂ (λ (out xs : List ℕ). over out (set_words_lem * loop.position) xs) loop.invariant c.saved_set.ensures
    ∙ set_more a.words.now a.output.now (omega arith) (omega arith) loop.position (omega arith)

pub returns : goal.returns
returns c =
    let a = c.args in
    let loop = c.loop-position in
    let all : loop.position ≡ length a.words.now / saved_words = omega arith in
    all_put a.words.now a.output.now (omega arith) (omega arith) loop.output
    (loop.invariant ∙ ap (λ (n : ℕ). over a.output.now 0 (through n (widened_set a.words.now))) all)
