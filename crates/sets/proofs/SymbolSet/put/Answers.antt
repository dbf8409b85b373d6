-- After w turns the set's first w words lie over the list.
use borrow.Author.Rules.{rules}
use mathlib.Core.Path.{◌≡◌, refl, ap, ◌∙◌}
use Prim.Native.Nat.{◌+◌}
use native.Mathlib.Omega.{arith}
use lib.ListN.{length, get_or, set}
use lib.Seq.{take_all}
use Rattle.meaning.specs.Limits.{set_words_lem}
use Rattle.meaning.specs.Over.{over}
use Rattle.meaning.proofs.Over.{over_none, store_more}
use Rattle.sets.proofs.SymbolSet.put.Goals as goal

pub loop-w-init : goal.loop-w-init
loop-w-init c = (omega arith, refl, over_none _ _)

pub loop-w-preserved : goal.loop-w-preserved
loop-w-preserved c =
    let a = c.args in
    let w = c.loop-w.w in
    let words = c.args.self.words in
    let n : length words ≡ set_words_lem = search rules in (
      omega arith,
      search rules,
      ap (λ l. set l (a.at + w) (get_or words w 0)) c.loop-w.invariant.2
          ∙ store_more a.list.now a.at words w (omega arith) (omega arith),
    )

pub returns : goal.returns
returns c =
    let a = c.args in
    let words = c.args.self.words in
    let n : length words ≡ set_words_lem = search rules in
    c.loop-w.invariant.2 ∙ ap (over a.list.now a.at) (take_all c.loop-w.w words (omega arith))
