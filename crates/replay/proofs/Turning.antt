-- A turn says what it is made of says: behind what was handed over before one waits goes the text of what comes next, and behind the text of
-- the turns before it.
use mathlib.Core.Path.{◌≡◌, refl, sym, subst}
use mathlib.Core.List.{List, [], ◌++◌}
use Prim.Native.Nat.{ℕ, ◌+◌, ◌≤◌}
use native.Mathlib.Omega.{arith}
use borrow.Author.Rules.{rules}
use lib.ListN.{length}
use Rattle.std.specs.Prelude.{Option, None, Some, Result, Ok, Err, IsErr}
use Rattle.input.specs.Unreads.{unread}
use Rattle.input.specs.declared.unread.Unread.{Unread}
use Rattle.input.specs.declared.batch.Next.{Next}
use Rattle.input.specs.Coming.{Coming, ended, Comes}
use Rattle.input.specs.Found.{found_in}
use Rattle.output.specs.declared.pending.Pending.{Pending}
use Rattle.output.specs.declared.pending.Failed.{Failed}
use Rattle.output.specs.Pendings.{Said}
use Rattle.output.specs.Turns.{Answered, Spoken}
use Rattle.output.proofs.Saying.{passed_none, passed_then}
use Rattle.output.proofs.Turning.{Prepared, unanswered, answered_behind, unanswered_behind}
use Rattle.replay.specs.declared.Turn.{Turn}
use Rattle.replay.specs.Batches.{turn_text, none, further}
use Rattle.replay.specs.Turns.{Within, Leaves, SaidOf, TurnFrom, TurnOf, TurnsBy}
use Rattle.replay.proofs.Begins.{begun_more}

module _ (k : ℕ) (next : Next) (buffer before : List ℕ) (used : ℕ) (after : List ℕ) (coming : Coming) (is : coming ≡ found_in buffer next) where
  -- LAW: where what comes next could not be said, the turn has failed
  pub failed_turn : (r : Result Turn Failed) → IsErr r → (failed : Failed) → Said before used (turn_text k coming) (Err failed) after → TurnOf k next buffer before used r after
  failed_turn (Ok turn) e failed said = absurd (search rules)
  failed_turn (Err f) e failed said = λ _. unanswered (turn_text k) coming is after failed said

-- LAW: where the batch has ended there is nothing to say
pub said_nothing : (k : ℕ) (before : List ℕ) (used : ℕ) → used ≤ length before → (p : Pending) → p.written ≡ 0 → p.standing ≡ used → Said before used (turn_text k ended) (Ok p) before
unfolding turn_text
said_nothing k before used l p unsaid stays = rw (unsaid, stays) (passed_none l, λ _. refl)

module _ (k : ℕ) (bytes : List ℕ) (Waits : Type 0) (buffer before : List ℕ) (used : ℕ) (next : Next) (more : List ℕ) (comes : Comes (bytes ++ more) (found_in buffer next))
    (gone left : ℕ) (inside : used ≤ length before) (ready : Prepared Waits before used gone left) where
  -- what was found is what comes in these bytes
  found : (coming : Coming) → coming ≡ found_in buffer next → (more : List ℕ) × Comes (bytes ++ more) coming
  found coming is = (more, subst (Comes (bytes ++ more)) (sym is) comes)

  -- LAW: the turn of what was found is one of the bytes in which it was found
  pub turn_taken : (turn : Result Turn Failed) (after : List ℕ) → TurnOf k next buffer before left turn after → TurnFrom k bytes Waits buffer before used turn after
  turn_taken (Ok turn) after (l, r) = (l, answered_behind (turn_text k) inside ready (λ coming has. (found coming has.0, has.1)) r)
  turn_taken (Err failed) after r = λ idle. unanswered_behind (turn_text k) inside ready found idle (r (λ never. absurd never))

-- LAW: before the first turn nothing is read or said
pub turns_none : (before buffer : List ℕ) (first : Unread) → first.at ≡ 0 → first.end ≡ 0 → TurnsBy 0 buffer before (Ok (record { rest = Some first; standing = 0 })) before
turns_none before buffer first at end =
    let nothing : unread buffer first.at first.end ≡ [] = λ i. unread buffer (at i) (end i) in
    (omega arith, record { bytes = []; text = []; has = rw nothing none; written = 0; passed = passed_none (omega arith) })

module _ (k : ℕ) (before buffer mid : List ℕ) (turn : Turn) (kept : Unread) (e : turn.rest ≡ Some kept) (t : TurnsBy k buffer before (Ok turn) mid) where
  so_far : Within (length buffer) (Some kept) × Spoken (SaidOf k buffer (Some kept)) before turn.standing mid
  so_far = subst (λ rest. Within (length buffer) rest × Spoken (SaidOf k buffer rest) before turn.standing mid) e t

  -- LAW: the next turn's bytes lie in the buffer
  pub turns_within : kept.end ≤ length buffer
  turns_within = so_far.0

  -- LAW: one turn more
  pub turns_more : (Waits : Type 0) (buffer' after : List ℕ) (r : Result Turn Failed) → TurnFrom k (unread buffer kept.at kept.end) Waits buffer' mid turn.standing r after
      → TurnsBy (k + 1) buffer' before r after
  turns_more Waits buffer' after (Ok next) one = by_rest next.rest one
    where
      s : Spoken (SaidOf k buffer (Some kept)) before turn.standing mid
      s = so_far.1

      by_rest : (rest : Option Unread)
          → Within (length buffer') rest
          × Answered (turn_text k) (λ coming. ((more : List ℕ) × Comes (unread buffer kept.at kept.end ++ more) coming) × Leaves buffer' rest coming) Waits mid turn.standing next.standing after
          → Within (length buffer') rest × Spoken (SaidOf (k + 1) buffer' rest) before next.standing after
      by_rest (Some rest) (l, r) = (
        l,
        record {
          bytes = s.bytes ++ r.has.0.0;
          text = s.text ++ turn_text k r.next;
          has = further (begun_more r.has.0.0 s.has) r.has.0.1 r.has.1;
          written = s.written + r.written;
          passed = passed_then (omega arith) s.passed r.passed refl;
        },
      )
      by_rest None (l, r) = (
        l,
        record {
          bytes = s.bytes ++ r.has.0.0;
          text = s.text ++ turn_text k r.next;
          has = record { many = k; left = unread buffer kept.at kept.end ++ r.has.0.0; front = s.text; begun = begun_more r.has.0.0 s.has; next = r.next; comes = r.has.0.1; stops = r.has.1; all = refl };
          written = s.written + r.written;
          passed = passed_then (omega arith) s.passed r.passed refl;
        },
      )
  turns_more Waits buffer' after (Err failed) one = tt

-- LAW: once the batch is over more turns change nothing
pub turns_stop : (k m : ℕ) (buffer before after : List ℕ) (turn : Turn) → turn.rest ≡ None → TurnsBy k buffer before (Ok turn) after → TurnsBy m buffer before (Ok turn) after
turns_stop k m buffer before after turn over t =
    let told = subst (λ rest. Within (length buffer) rest × Spoken (SaidOf k buffer rest) before turn.standing after) over t in
    subst (λ rest. Within (length buffer) rest × Spoken (SaidOf m buffer rest) before turn.standing after) (sym over) told
