-- Lines that are put one behind the other: what was to be written is what was put and what is still to be written, and with each line less of
-- it is left.
use mathlib.Core.Path.{◌≡◌, refl, sym, ap, subst, ◌∙◌}
use mathlib.Core.List.{List, [], ◌++◌, append_assoc}
use Prim.Native.Nat.{ℕ, ◌+◌, ◌≤◌, ◌<◌}
use native.Mathlib.Decide.{dec_lt}
use native.Mathlib.Omega.{arith}
use lib.ListN.{length, length-append}
use Rattle.std.specs.Prelude.{Option, None, Some, Result}
use Rattle.refusal.specs.declared.Degrees.{Degrees}
use Rattle.refusal.specs.declared.Refusal.{Refusal}
use Rattle.lines.specs.declared.line.Cursor.{Cursor}
use Rattle.text.specs.declared.Text.{Text}
use Rattle.text.specs.Texts.{PutBy}
use Rattle.lines.specs.Lines.{line_room, line_at, rest_at, OnLine, LineBy}
use Rattle.lines.specs.Filling.{FilledBy}
use Rattle.text.proofs.Puts.{put_none, put_then}
use Rattle.lines.proofs.Rest.{nothing, rest_next, rest_end, rest_falls, rest_over, on_next}

module _ (outcome : Result Degrees Refusal) (spans sets : List ℕ) where
  abbrev rest : Option Cursor → List ℕ
  rest = rest_at outcome spans sets

  module _ (first : Option Cursor) (before : Text) where
    -- the lines up to `next` are put
    pub record Begun (next : Option Cursor) (now : Text) : Type 0 where
      pub text : List ℕ
      pub put : PutBy before text now
      pub splits : rest first ≡ text ++ rest next
      pub on : OnLine spans next

    pub begun_none : OnLine spans first → Begun first before
    begun_none on = record { text = []; put = put_none; splits = refl; on = on }

    -- LAW: one line more
    pub begun_line : (cursor : Cursor) (now : Text) (next : Option Cursor) (after : Text) → Begun (Some cursor) now → LineBy outcome spans sets cursor now next after → Begun next after
    begun_line cursor now next after b t =
        let here = line_at outcome spans sets (Some cursor) in
        record {
          text = b.text ++ here;
          put = put_then b.put t.put;
          splits =
              b.splits
              ∙ ap (λ s. b.text ++ s) (rest_next outcome spans sets (Some cursor) b.on ∙ ap (λ c. here ++ rest c) (sym t.next_is))
              ∙ sym (append_assoc b.text here (rest next));
          on = subst (OnLine spans) (sym t.next_is) (on_next outcome spans (Some cursor) b.on);
        }

    -- LAW: it may end at any line, if there is no room for one more or none is left
    pub begun_filled : (next : Option Cursor) (now : Text) → Begun next now → (now.used + line_room ≤ length before.buffer.now → next ≡ None)
        → FilledBy outcome spans sets first before next now
    begun_filled next now b full = record { text = b.text; put = b.put; splits = b.splits; on = b.on; full = full }

  -- LAW: a line leaves less
  pub line_less : (cursor : Cursor) (now : Text) (next : Option Cursor) (after : Text) → OnLine spans (Some cursor) → LineBy outcome spans sets cursor now next after
      → length (rest next) < length (rest (Some cursor))
  line_less cursor now next after on t =
      subst (λ c. length (rest c) < length (rest (Some cursor))) (sym t.next_is) (rest_falls outcome spans sets (Some cursor) on (λ z. cc))

  -- LAW: where there is room for a line, filling from the front leaves less
  pub fill_less : (cursor : Cursor) (before : Text) (next : Option Cursor) (after : Text) → FilledBy outcome spans sets (Some cursor) before next after
      → before.used ≡ 0 → OnLine spans (Some cursor) → line_room ≤ length before.buffer.now → length (rest next) < length (rest (Some cursor))
  fill_less cursor before next after f empty on room = go (dec_lt 0 (length f.text))
    where
      sum : length (rest (Some cursor)) ≡ length f.text + length (rest next)
      sum = ap length f.splits ∙ length-append f.text (rest next)

      go : Dec (0 < length f.text) → length (rest next) < length (rest (Some cursor))
      go (yes l) = omega (arith, sum)
      go (no l) =
          let done = ap rest (f.full (omega (arith, f.put.ends))) ∙ rest_end outcome spans sets in
          let over : Some cursor ≡ None = (rest_over outcome spans sets (Some cursor) on).0 (nothing (rest (Some cursor)) (omega (arith, sum, ap length done))) in
          cc
