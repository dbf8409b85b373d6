-- The loop has found no member so far, and goes on from one word's end to the next; a word that is not used up has the next member.
use borrow.Author.Rules.{rules}
use Prim.Native.Nat.{◌/◌}
use native.Mathlib.Omega.{arith}
use mir.Syntax.{w64}
use mir.Val.{Fits}
use lib.ListN.{get_or}
use Rattle.meaning.specs.Limits.{word_bits, set_words_lem}
use Rattle.sets.proofs.Next.{pass_word, found_in_word}
use Rattle.sets.proofs.next_member.Goals as goal

pub returns-then-rest-ne0 : goal.returns-then-rest-ne0
returns-then-rest-ne0 c =
    let a = c.args in
    let loop = c.loop-k in
    let word : Fits w64 (get_or a.words.now (loop.k / word_bits) 0) = search rules in
    found_in_word a.words.now a.from loop.k set_words_lem a.end word.fits (omega arith) (omega arith) (omega (arith, c.if-rest-ne0.true)) loop.invariant.2

pub loop-k-preserved : goal.loop-k-preserved
loop-k-preserved c =
    let a = c.args in
    let loop = c.loop-k in
    (omega arith, omega arith, pass_word a.words.now a.from loop.k c.if-rest-ne0.false loop.invariant.2)
