-- What is said in a turn goes behind what was handed over before one waits, or behind all that stood.
use mathlib.Core.Path.{◌≡◌, refl}
use mathlib.Core.List.{List, []}
use mathlib.Core.Bool.{Bool, true, false}
use Prim.Native.Nat.{ℕ, ◌+◌, ◌≤◌}
use native.Mathlib.Omega.{arith}
use lib.ListN.{length}
use Rattle.std.specs.Prelude.{Ok, Err}
use Rattle.output.specs.declared.pending.Pending.{Pending}
use Rattle.output.specs.declared.pending.Failed.{Failed}
use Rattle.output.specs.Pendings.{Passed, Said, Settled}
use Rattle.output.specs.Turns.{MustWrite, Answered, Unanswered}
use Rattle.output.proofs.Saying.{passed_none, passed_out, passed_then}

-- before it waits what stood in the buffer is handed over, and else it stays
pub record Prepared (Waits : Type 0) (before : List ℕ) (used gone left : ℕ) : Type 0 where
  pub passed : Passed before used [] gone left before
  pub first : Waits → used ≤ gone
  pub stays : (Waits → used ≡ 0) → left ≡ used

-- LAW: waiting told in other words
pub prepared_as : {Waits Other : Type 0} {before : List ℕ} {used gone left : ℕ} → (Waits → Other) → (Other → Waits)
    → Prepared Waits before used gone left → Prepared Other before used gone left
prepared_as to from ready = record { passed = ready.passed; first = λ o. ready.first (from o); stays = λ idle. ready.stays (λ w. idle (to w)) }

module _ (at end : ℕ) (before : List ℕ) (used : ℕ) (inside : used ≤ length before) where
  -- LAW: what is settled by the test is prepared
  pub ready_by : (waits : Bool) → MustWrite at end used waits → (p : Pending) → Settled used waits (Ok p) → Prepared (at ≡ end) before used p.written p.standing
  ready_by true must p (e, f) = record { passed = passed_out inside (e, f); first = λ _. omega arith; stays = λ idle. absurd (omega (arith, idle must.0, must.1)) }
  ready_by false must p (none_gone, all_left) =
      record { passed = rw (none_gone, all_left) (passed_none inside); first = λ e. omega (arith, must e); stays = λ _. all_left }

  -- LAW: and nothing can fail where nothing has to be written
  pub failed_by : (waits : Bool) → MustWrite at end used waits → (failed : Failed) → Settled used waits (Err failed) → (at ≡ end → used ≡ 0) → ⊥
  failed_by true must failed _ idle = omega (arith, idle must.0, must.1)
  failed_by false must failed never idle = never

module _ {A : Type 0} (text_of : A → List ℕ) {Has Had : A → Type 0} {Waits : Type 0} {before : List ℕ} {used gone left : ℕ}
    (inside : used ≤ length before) (ready : Prepared Waits before used gone left) (had : (next : A) → Has next → Had next) where
  -- LAW: what is said behind what stood is the turn's
  pub answered_behind : {standing : ℕ} {after : List ℕ} → Answered text_of Has ⊥ before left standing after → Answered text_of Had Waits before used standing after
  answered_behind r = record {
    next = r.next;
    has = had r.next r.has;
    written = gone + r.written;
    passed = passed_then inside ready.passed r.passed refl;
    first = λ e. omega (arith, ready.first e);
    later = λ idle room. omega (arith, ready.stays idle, ready.passed.counted, r.later (λ never. absurd never) (omega (arith, ready.stays idle)));
  }

  pub unanswered_behind : (Waits → used ≡ 0) → Unanswered text_of Has before left → Unanswered text_of Had before used
  unanswered_behind idle r = record { next = r.next; has = had r.next r.has; full = λ room. r.full (omega (arith, ready.stays idle)) }

module _ {A : Type 0} (text_of : A → List ℕ) {Has : A → Type 0} {before : List ℕ} {used : ℕ} (next : A) (has : Has next) where
  -- LAW: what is said is an answer, or it is not for want of room
  pub answered : (p : Pending) {after : List ℕ} → Said before used (text_of next) (Ok p) after → Answered text_of Has ⊥ before used p.standing after
  answered p said = record { next = next; has = has; written = p.written; passed = said.0; first = λ never. absurd never; later = λ _. said.1 }

  pub unanswered : (after : List ℕ) (failed : Failed) → Said before used (text_of next) (Err failed) after → Unanswered text_of Has before used
  unanswered after failed said = record { next = next; has = has; full = said }
