-- What is copied into as many places of a list lies over it.
use mathlib.Core.Path.{◌≡◌, refl, sym, ap, ◌∙◌}
use mathlib.Core.List.{List, ◌++◌}
use Prim.Native.Nat.{ℕ, ◌+◌, ◌*◌}
use native.Mathlib.Omega.{arith}
use borrow.Rule.Slice.PartMut.{put_mid}
use lib.ListN.{length, take, drop}
use lib.Seq.{take-length}
use Rattle.std.proofs.lemmas.Slice.{put_mid-paste}
use Rattle.meaning.specs.Limits.{span_width}
use Rattle.meaning.specs.Over.{over}
use Rattle.packing.proofs.Span.put.Goals as goal

over_copied : (out : List ℕ) (at k : ℕ) {part : List ℕ} (xs : List ℕ) → part ≡ xs → k ≡ length xs → put_mid at k out part ≡ over out at xs
unfolding over
over_copied out at k xs e l = put_mid-paste at k out _ xs (length xs) e (sym l) refl ∙ ap (λ s. take at out ++ s ++ drop (at + length xs) out) (take-length xs)

pub returns : goal.returns
returns c = over_copied c.args.spans.now (span_width * c.args.v) _ _ c.copy_from_slice.ensures.after (omega arith)
