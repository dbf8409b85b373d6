-- One shifted up inside a word loses no bit, so over the words of h lie those of the set of h alone; the last word of h is written behind them.
use Rattle.std.proofs.Common.{rules}
use mathlib.Core.Path.{◌≡◌, sym as inv, ap, ◌∙◌}
use Prim.Native.Nat.{ℕ, ◌+◌, ◌-◌, ◌*◌, ◌%◌, ◌^◌}
use native.Mathlib.Nat.{one-mul}
use native.Mathlib.Omega.{arith}
use borrow.Rule.Slice.PartMut.{put_mid, mid_len}
use lib.Dec.{lit<}
use lib.ListN.{length, length-replicate}
use lib.Pow.{shl_exact}
use Rattle.meaning.specs.Limits.{word_bits, set_words_lem}
use Rattle.meaning.specs.Calls.{zeros}
use Rattle.meaning.specs.Over.{over}
use Rattle.sets.proofs.Laying.{part_over}
use Rattle.near.specs.Near.{near_words, kept}
use Rattle.near.proofs.Opening.{opened_anew, passed}
use Rattle.near.proofs.open.Goals as goal
use Rattle.near.proofs.open.Goals.{After-fill}

-- what was filled is the words of no symbol
emptied : (c : After-fill) → let at = near_words * c.args.h in put_mid at (at + set_words_lem - at) c.args.near.now c.fill.new.self ≡ over c.args.near.now at (zeros set_words_lem)
emptied c =
    let near = c.args.near.now in
    let at = near_words * c.args.h in
    let many : length c.fill.new.self ≡ set_words_lem = c.fill.ensures.len ∙ mid_len at (at + set_words_lem) near (omega (arith, c.requires.0)) ∙ omega arith in
    let all : c.fill.new.self ≡ zeros set_words_lem = c.fill.ensures.after (search rules) ∙ ap zeros (inv c.fill.ensures.len ∙ many) in
    part_over near at set_words_lem (zeros set_words_lem) _ all (length-replicate {A = ℕ} set_words_lem 0)

pub returns-then-near-last-eq-NOT_GATHERED : goal.returns-then-near-last-eq-NOT_GATHERED
returns-then-near-last-eq-NOT_GATHERED c =
    let a = c.args in
    opened_anew a.near.now a.h c.requires.0 c.requires.1 _ _ (emptied (goal.at.returns-then-near-last-eq-NOT_GATHERED c).After-fill)
    (shl_exact 1 (a.h % word_bits) word_bits (lit< tt) (omega arith) ∙ one-mul (2 ^ (a.h % word_bits)))

pub returns-else-near-last-eq-NOT_GATHERED : goal.returns-else-near-last-eq-NOT_GATHERED
unfolding kept
returns-else-near-last-eq-NOT_GATHERED c =
    let a = c.args in
    passed a.near.now a.h c.if-near-last-eq-NOT_GATHERED.false
