-- Texts that are said one after the other are one text: what the first leaves standing is what the second goes behind, and what was handed over
-- adds up.
use mathlib.Core.Path.{◌≡◌, refl, sym, ap, ap₂, subst, ◌∙◌}
use mathlib.Core.List.{List, [], ◌++◌, append-nil, append_assoc}
use Prim.Native.Nat.{ℕ, ◌+◌, ◌≤◌, ◌<◌}
use native.Mathlib.Omega.{arith}
use lib.ListN.{length, take, drop, length-append, drop_of_length-le}
use lib.Seq.{length-take-le, take_at, drop-append-le, drop-drop}
use Rattle.meaning.specs.Over.{over}
use borrow.Author.Rules.{rules}
use Rattle.std.specs.Prelude.{Result, Ok, Err, IsErr}
use Rattle.text.specs.declared.Text.{Text}
use Rattle.text.specs.Texts.{PutBy}
use Rattle.lines.specs.Lines.{line_room}
use Rattle.output.specs.declared.pending.Pending.{Pending}
use Rattle.output.specs.declared.pending.Failed.{Failed}
use Rattle.output.specs.Pendings.{Passed, HasRoom, Said, HandedOver, Roomy}

-- LAW: a text that is put behind what stands there
pub passed_put : {a b : Text} {text : List ℕ} → PutBy a text b → Passed a.buffer.now a.used text 0 b.used b.buffer.now
unfolding over
passed_put {a} {b} {text} put =
    let before = a.buffer.now in
    let front = take a.used before ++ text in
    let rest = drop (a.used + length text) before in
    let long : length front ≡ b.used = omega (arith, put.ends, length-append (take a.used before) text, length-take-le a.used before a.inside) in
    record {
      counted = omega (arith, put.ends);
      inside = omega (arith, put.room, b.inside);
      same = put.room;
      stands = ap (take b.used) put.written ∙ take_at front rest b.used long;
    }

-- LAW: nothing said
pub passed_none : {before : List ℕ} {used : ℕ} → used ≤ length before → Passed before used [] 0 used before
passed_none {before} {used} l =
    record { counted = omega arith; inside = l; same = refl; stands = sym (append-nil (take used before)) }

-- LAW: what is handed over whole
pub passed_out : {before : List ℕ} {used written end : ℕ} → used ≤ length before → (written ≡ used) × (end ≡ 0) → Passed before used [] written end before
passed_out {before} {used} {written} {end} l (all, none) =
    let stood = take used before ++ [] in
    let short : length stood ≤ written = omega (arith, length-append (take used before) [], length-take-le used before l) in
    record {
      counted = omega arith;
      inside = omega arith;
      same = refl;
      stands = ap (λ n. take n before) none ∙ sym (drop_of_length-le stood short);
    }

-- LAW: where there is no room for a line, and then there is
pub said_out : (before : List ℕ) (used : ℕ) (r : Result Pending Failed) → used ≤ length before → length before < used + line_room → line_room ≤ length before → HandedOver used r
    → Said before used [] r before × Roomy (length before) line_room r
said_out before used (Ok p) l full room all = ((passed_out l all, λ spare. absurd (omega arith)), omega (arith, all.1))
said_out before used (Err failed) l full room all = ((λ spare. omega arith), tt)

-- LAW: one text after the other
pub passed_then : {before : List ℕ} {used : ℕ} {t₁ t₂ mid after : List ℕ} {w e w' e' n : ℕ} → used ≤ length before
    → Passed before used t₁ w e mid → Passed mid e t₂ w' e' after → n ≡ w + w' → Passed before used (t₁ ++ t₂) n e' after
passed_then {before} {used} {t₁} {t₂} {mid} {after} {w} {e} {w'} {e'} {n} inside p q sum =
    let stood = take used before ++ t₁ in
    let long : w ≤ length stood = omega (arith, p.counted, length-append (take used before) t₁, length-take-le used before inside) in
    record {
      counted = omega (arith, p.counted, q.counted, length-append t₁ t₂);
      inside = omega (arith, q.inside, p.same);
      same = q.same ∙ p.same;
      stands =
          q.stands
          ∙ ap (λ s. drop w' (s ++ t₂)) p.stands
          ∙ ap (drop w') (sym (drop-append-le w stood t₂ long))
          ∙ drop-drop w' w (stood ++ t₂)
          ∙ ap₂ drop (sym sum) (append_assoc (take used before) t₁ t₂);
    }

module _ (before : List ℕ) (used : ℕ) (t₁ t₂ mid after : List ℕ) (inside : used ≤ length before) (p : Pending) (said : Said before used t₁ (Ok p) mid) where
  -- what has room has none to be written before
  none_before : HasRoom before used (t₁ ++ t₂) → (p.written ≡ 0) × HasRoom mid p.standing t₂
  none_before room =
      let none : p.written ≡ 0 = said.1 (omega (arith, room, length-append t₁ t₂)) in
      (none, omega (arith, room, none, said.0.counted, said.0.same, length-append t₁ t₂))

  -- LAW: said one after the other
  pub said_then : (q : Pending) → Said mid p.standing t₂ (Ok q) after → (r : Pending) → r.written ≡ p.written + q.written → r.standing ≡ q.standing → Said before used (t₁ ++ t₂) (Ok r) after
  said_then q (passed, second) r sum same = (
    subst (λ n. Passed before used (t₁ ++ t₂) r.written n after) (sym same) (passed_then inside said.0 passed sum),
    λ room. let none = none_before room in omega (arith, none.0, second none.1),
  )

  -- LAW: put behind what was said
  pub said_then_put : {a b : Text} → PutBy a t₂ b → a.used ≡ p.standing → a.buffer.now ≡ mid → b.buffer.now ≡ after → (r : Pending) → r.written ≡ p.written → r.standing ≡ b.used
      → Said before used (t₁ ++ t₂) (Ok r) after
  said_then_put {a} {b} put from here end r same stands =
      let e : r.written ≡ p.written + 0 = omega arith in
      let passed = subst (λ n. Passed n p.standing t₂ 0 b.used after) here (subst (λ n. Passed a.buffer.now n t₂ 0 b.used after) from (subst (Passed a.buffer.now a.used t₂ 0 b.used) end (passed_put put))) in (
        subst (λ n. Passed before used (t₁ ++ t₂) r.written n after) (sym stands) (passed_then inside said.0 passed e),
        λ room. omega (arith, (none_before room).0),
      )

-- LAW: where the first could not be written, nothing more is said
pub said_failed : (before : List ℕ) (used : ℕ) (t₁ t₂ mid after : List ℕ) (failed : Failed) → Said before used t₁ (Err failed) mid → Said before used (t₁ ++ t₂) (Err failed) after
said_failed before used t₁ t₂ mid after failed first = λ room. first (omega (arith, room, length-append t₁ t₂))

-- LAW: a write that failed may be told in any way
pub said_err : (before : List ℕ) (used : ℕ) (text : List ℕ) (r : Result Pending Failed) (after : List ℕ) → IsErr r → (HasRoom before used text → ⊥) → Said before used text r after
said_err before used text (Ok p) after e full = absurd (search rules)
said_err before used text (Err failed) after e full = full
