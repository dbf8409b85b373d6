-- Bytes that were moved to the front stay there while more is read behind them.
use mathlib.Core.Path.{◌≡◌, sym, ap, ◌∙◌}
use mathlib.Core.List.{List}
use Prim.Native.Nat.{ℕ, ◌-◌, ◌≤◌, ◌<◌}
use native.Mathlib.Nat.{zero-add}
use native.Mathlib.Omega.{arith}
use lib.ListN.{length, take, drop, length-drop}
use lib.Seq.{paste}
use Rattle.std.proofs.lemmas.List.Edits.{take-paste}
use Rattle.input.specs.declared.unread.Unread.{Unread}
use Rattle.input.specs.Unreads.{unread, ReadBy}
use Rattle.input.proofs.Unused.{unread_front, front_stays}

-- LAW: a part that is copied to the front stands there
pub copied_front : (buffer : List ℕ) (at end : ℕ) → end ≤ length buffer → take (end - at) (paste buffer 0 (drop at buffer) (end - at)) ≡ unread buffer at end
copied_front buffer at end within =
    let n = end - at in
    ap (λ k. take k (paste buffer 0 (drop at buffer) n)) (sym (zero-add n)) ∙ take-paste buffer 0 (drop at buffer) n (omega arith) (omega (arith, length-drop at buffer))

-- LAW: the bytes were moved, and more was read up to `read`
pub more_read : (before : List ℕ) (at end wanted : ℕ) (now : Unread) (read : ℕ) (after : List ℕ) → now.at ≡ 0 → now.end ≡ read
    → take (end - at) after ≡ unread before at end → end - at ≤ read → read ≤ length before → end - at < wanted
    → ReadBy before at end wanted now after
more_read before at end wanted now read after a e kept l room few = record {
  within = omega arith;
  more = drop (end - at) (take read after);
  follows = (λ i. unread after (a i) (e i)) ∙ unread_front after read ∙ front_stays (end - at) read after (unread before at end) l kept;
  still = λ enough. absurd (omega arith);
}
