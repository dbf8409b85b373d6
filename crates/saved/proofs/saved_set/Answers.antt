-- After w turns the first w words of the set lie over zeros.
use mathlib.Core.Path.{refl, ◌∙◌}
use native.Mathlib.Omega.{arith}
use lib.ListN.{length-set}
use Rattle.meaning.specs.Limits.{set_words_lem}
use Rattle.meaning.specs.Calls.{zeros}
use Rattle.meaning.proofs.Over.{over_none}
use Rattle.saved.proofs.Widening.{word_more, all_words}
use Rattle.saved.proofs.saved_set.Goals as goal

pub loop-w-init : goal.loop-w-init
loop-w-init c = (omega arith, refl, over_none (zeros set_words_lem) 0)

pub loop-w-preserved : goal.loop-w-preserved
loop-w-preserved c =
    let a = c.args in
    let loop = c.loop-w in (
      omega arith,
      length-set loop.set loop.w _ ∙ loop.invariant.1,
      word_more a.words.now a.position c.requires loop.w loop.set _ (omega arith) loop.invariant.2 c.saved_word.ensures,
    )

pub returns : goal.returns
returns c =
    let a = c.args in
    let loop = c.loop-w in
    loop.invariant.2 ∙ all_words a.words.now a.position c.requires loop.w (omega arith)
