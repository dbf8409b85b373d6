-- A turn says what is said of what was cut off, behind what was handed over before it waits: that is the text of the record that comes next, and one that
-- is too long has the text of no bytes.
use mathlib.Core.Path.{◌≡◌, refl, sym, ap, subst}
use mathlib.Core.List.{List, [], ◌++◌}
use Prim.Native.Nat.{ℕ, ◌≤◌, ◌<◌}
use native.Mathlib.Decide.{dec_lt}
use native.Mathlib.Omega.{arith}
use lib.ListN.{length}
use Rattle.input.specs.Unreads.{unread}
use Rattle.input.proofs.Unused.{length-unread}
use Rattle.std.specs.Prelude.{None, Result, Ok, Err}
use Rattle.marc.specs.Known.{Known}
use Rattle.marc.specs.Printed.{record_line}
use Rattle.marc.proofs.LongRecords.{long_answered}
use Rattle.marc_input.specs.declared.rest.Rest.{Rest}
use Rattle.marc_input.specs.declared.cutting.Cut.{Cut}
use Rattle.marc_input.specs.declared.cutting.Cut.TheVariants.{Whole, TooLong, Ended, Endless}
use Rattle.marc_input.specs.Rests.{Held, rest_in}
use Rattle.marc_input.specs.Passing.{NoMark, MarkBy}
use Rattle.marc_input.specs.Cuts.{NextTo, NextBy}
use Rattle.marc_input.proofs.Marks.{mark_there}
use Rattle.output.specs.declared.pending.Failed.{Failed}
use Rattle.output.proofs.Saying.{passed_none}
use Rattle.output.proofs.Turning.{Prepared, answered, unanswered, answered_behind, unanswered_behind}
use Rattle.headings_of.specs.declared.answering.Turn.{Turn}
use Rattle.headings_of.specs.Texts.{record_text}
use Rattle.headings_of.specs.Turns.{CutIn, GoesOn, ended, endless, CutSaid, TextOf, NoText, Waits, TurnTo, TurnBy}

-- LAW: no mark is found where none stands
pub mark_at_end : (buffer : List ℕ) (rest : Rest) (mark : ℕ) → Held buffer rest → MarkBy (rest_in buffer rest) rest.at rest.end mark → NoMark (rest_in buffer rest) → mark ≡ rest.end
mark_at_end buffer rest mark held by none = at_end (dec_lt mark rest.end)
  where
    at_end : Dec (mark < rest.end) → mark ≡ rest.end
    at_end (yes l) = absurd (mark_there (rest_in buffer rest) rest.at rest.end mark by (length-unread buffer rest.at rest.end held.1) l none)
    at_end (no l) = omega (arith, by.inside)

-- LAW: what comes next lies in the buffer
pub next_in_lem : (buffer : List ℕ) (rest : Rest) (cut : Cut) (buffer' : List ℕ) → NextBy buffer rest cut buffer' → CutIn (length buffer') cut
next_in_lem buffer rest (Whole start now) buffer' (l, next) = (l, omega (arith, next.read.held.0, next.read.held.1))
next_in_lem buffer rest (TooLong now) buffer' next = tt
next_in_lem buffer rest Ended buffer' next = tt
next_in_lem buffer rest Endless buffer' next = tt

module _ (heading absent : ℕ) (ks : List Known) (k : ℕ) where
  -- one that is too long has the text of no bytes
  long_text : (bytes : List ℕ) → 99999 < length bytes → record_text heading absent ks k [] ≡ record_text heading absent ks k bytes
  long_text bytes l = ap (λ t. record_line k ++ t) (sym (long_answered heading absent ks bytes l))

  module _ (buffer : List ℕ) (rest : Rest) (buffer' : List ℕ) where
    text_of : {Is : List ℕ → Type 0} (text : List ℕ) (now : Rest) → ((bytes : List ℕ) → Is bytes → text ≡ record_text heading absent ks k bytes) → NextTo Is buffer rest now buffer'
        → TextOf heading absent ks k buffer rest now buffer' text
    text_of text now is next = record {
      more = next.more;
      read = next.read;
      next = λ beyond may. let n = next.next beyond may in (n.0, is n.0 n.1, n.2);
    }

    module _ (before : List ℕ) (used gone left : ℕ) (inside : used ≤ length before) (ready : Prepared (Waits buffer rest) before used gone left) (after : List ℕ) where
      goes : (text : List ℕ) (now : Rest) → TextOf heading absent ks k buffer rest now buffer' text → (r : Result Turn Failed) → GoesOn text now before left r after
          → TurnBy heading absent ks k buffer rest before used r buffer' after
      goes text now is (Ok turn) (to, written, said) =
          let all = answered_behind (λ t. t) inside ready (λ _ has. has) (answered (λ t. t) text is (record { written = written; standing = turn.standing }) said) in
          subst (λ rest'. TurnTo heading absent ks k buffer rest before used rest' turn.standing buffer' after) (sym to) all
      goes text now is (Err failed) said = λ idle. unanswered_behind (λ t. t) inside ready (λ _ has. has) idle (unanswered (λ t. t) text (now, is) after failed said)

      stops : NoText heading absent ks buffer rest [] → after ≡ before → TurnBy heading absent ks k buffer rest before used (Ok (record { rest = None; standing = left })) buffer' after
      stops over e = answered_behind (λ t. t) inside ready (λ _ has. has) (answered (λ t. t) [] over (record { written = 0; standing = left }) (rw e (passed_none ready.passed.inside), λ _. refl))

      -- LAW: the turn of what was cut off
      pub turn_taken : (cut : Cut) → NextBy buffer rest cut buffer' → (r : Result Turn Failed) → CutSaid heading absent ks k buffer' cut before left r after
          → TurnBy heading absent ks k buffer rest before used r buffer' after
      turn_taken (Whole start now) (l, next) r said =
          let text = record_text heading absent ks k (unread buffer' start now.at) in
          goes text now (text_of text now (λ bytes e. ap (record_text heading absent ks k) (sym e)) next) r said
      turn_taken (TooLong now) next r said = goes (record_text heading absent ks k []) now (text_of (record_text heading absent ks k []) now long_text next) r said
      turn_taken Ended (more, may, e) r said = rw said.0 (stops (refl, (more, may, ended e)) said.1)
      turn_taken Endless (more, may, e) r said = rw said.0 (stops (refl, (more, may, endless e)) said.1)
