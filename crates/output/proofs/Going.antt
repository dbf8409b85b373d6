-- An answer that is said piece by piece: what was handed over, what stands in the buffer, and what is still to be said make up the whole. Where the
-- whole has room the first piece is all of it.
use mathlib.Core.Path.{◌≡◌, refl, sym, ap, subst, ◌∙◌}
use mathlib.Core.List.{List, [], ◌++◌, append-nil, append_assoc}
use Prim.Native.Nat.{ℕ, ◌+◌, ◌≤◌}
use native.Mathlib.Omega.{arith}
use lib.ListN.{length, length-append}
use Rattle.std.specs.Prelude.{Option, None, Some, Result, Ok}
use Rattle.refusal.specs.declared.Degrees.{Degrees}
use Rattle.refusal.specs.declared.Refusal.{Refusal}
use Rattle.refusal.specs.Outcomes.{result_of}
use Rattle.lines.specs.declared.line.Cursor.{Cursor}
use Rattle.lines.specs.declared.line.Cursor.TheVariants.{First}
use Rattle.text.specs.declared.Text.{Text}
use Rattle.lines.specs.Lines.{text_in, rest_at, OnLine}
use Rattle.lines.specs.Spans.{Spanned}
use Rattle.lines.specs.Lengths.{most_sets, most_text}
use Rattle.lines.specs.Filling.{FilledBy}
use Rattle.lines.proofs.Rest.{rest_start, rest_end}
use Rattle.lines.proofs.Lengths.{text_short}
use Rattle.output.specs.declared.pending.Pending.{Pending}
use Rattle.output.specs.Pendings.{Passed, HasRoom, Said}
use Rattle.output.proofs.Saying.{passed_put, passed_none, passed_out, passed_then}

module _ (outcome : Result Degrees Refusal) (spans sets : List ℕ) where
  abbrev whole : List ℕ
  whole = text_in (result_of outcome spans sets)

  abbrev rest : Option Cursor → List ℕ
  rest = rest_at outcome spans sets

  -- since the first piece, which left a text standing and a line to come, the lines up to the next one are said
  pub record Going (first : Text) (start : Option Cursor) (written : ℕ) (next : Option Cursor) (now : Text) : Type 0 where
    pub text : List ℕ
    pub same_buffer : now.buffer.ghost_name ≡ first.buffer.ghost_name
    pub passed : Passed first.buffer.now first.used text written now.used now.buffer.now
    pub splits : rest start ≡ text ++ rest next
    pub on : OnLine spans next
    pub over : start ≡ None → (next ≡ None) × (written ≡ 0)

  pub going_none : {first : Text} {start : Option Cursor} → OnLine spans start → Going first start 0 start first
  going_none {first} on = record { text = []; same_buffer = refl; passed = passed_none first.inside; splits = refl; on = on; over = λ e. (e, refl) }

  -- LAW: one piece more, from the front on once all that stood is handed over
  pub going_more : {first : Text} {start : Option Cursor} {written : ℕ} {cursor : Cursor} {now : Text} → Going first start written (Some cursor) now
      → (empty : Text) → empty.buffer.ghost_name ≡ now.buffer.ghost_name → empty.buffer.now ≡ now.buffer.now → empty.used ≡ 0
      → (next : Option Cursor) (after : Text) → FilledBy outcome spans sets (Some cursor) empty next after → Going first start (written + now.used) next after
  going_more {first} {start} {written} {cursor} {now} g empty buffer same none next after f =
      let p = g.passed in
      let emptied : Passed now.buffer.now now.used [] now.used 0 now.buffer.now = passed_out now.inside (refl, refl) in
      let put = subst (λ n. Passed empty.buffer.now n f.text 0 after.used after.buffer.now) none (passed_put f.put) in
      let more = passed_then {t₂ = f.text} {n = now.used} now.inside emptied (subst (λ b. Passed b 0 f.text 0 after.used after.buffer.now) same put) (omega arith) in
      record {
        text = g.text ++ f.text;
        same_buffer = f.put.same_buffer ∙ buffer ∙ g.same_buffer;
        passed = passed_then first.inside p more refl;
        splits = g.splits ∙ ap (λ s. g.text ++ s) f.splits ∙ sym (append_assoc g.text f.text (rest next));
        on = f.on;
        over = λ e. let way : Some cursor ≡ None = (g.over e).0 in cc;
      }

  module _ (before first : Text) (start : Option Cursor) (f : FilledBy outcome spans sets (Some First) before start first)
      (written : ℕ) (next : Option Cursor) (now : Text) (g : Going first start written next now) where
    splits : whole ≡ f.text ++ (g.text ++ rest next)
    splits = sym (rest_start outcome spans sets) ∙ f.splits ∙ ap (λ s. f.text ++ s) g.splits

    long : length whole ≡ length f.text + (length g.text + length (rest next))
    long = omega (arith, ap length splits, length-append f.text (g.text ++ rest next), length-append g.text (rest next))

    -- the first piece is all where it has room
    at_once : HasRoom before.buffer.now before.used whole → start ≡ None
    at_once room =
        let part : length whole ≡ length f.text + length (rest start) = omega (arith, ap length g.splits, long, length-append g.text (rest next)) in
        f.full (omega (arith, room, f.put.ends, part))

    -- LAW: at the end the whole is said
    pub going_over : next ≡ None → (p : Pending) → p.written ≡ written → p.standing ≡ now.used → {after : List ℕ} → now.buffer.now ≡ after
        → Said before.buffer.now before.used whole (Ok p) after
    going_over over p same stands end =
        let all : whole ≡ f.text ++ g.text = splits ∙ ap (λ s. f.text ++ (g.text ++ s)) (ap rest over ∙ rest_end outcome spans sets) ∙ ap (λ s. f.text ++ s) (append-nil g.text) in
        let both = passed_then {n = written} before.inside (passed_put f.put) g.passed (omega arith) in
        (rw (same, stands, sym end) (subst (λ t. Passed before.buffer.now before.used t written now.used now.buffer.now) (sym all) both), λ room. same ∙ (g.over (at_once room)).1)

    -- LAW: a write that failed was one for want of room
    pub going_failed : (cursor : Cursor) → next ≡ Some cursor → HasRoom before.buffer.now before.used whole → ⊥
    going_failed cursor e room = let way : next ≡ None = (g.over (at_once room)).0 in cc

    -- LAW: what was handed over and what stands there can be counted
    pub going_count : Spanned spans sets → length sets ≤ most_sets → written + now.used ≤ before.used + most_text
    going_count spanned few = omega (arith, g.passed.counted, f.put.ends, long, text_short outcome spans sets spanned few)
