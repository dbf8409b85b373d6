-- Turn after turn the text grows by that of the record that comes next, and what is still to be said is that of the bytes which are not used yet; at the
-- end nothing is. The bytes that are not used yet grow no longer than those that were read, so that there are uncounted ones of these too.
use mathlib.Core.Path.{◌≡◌, refl, sym, ap, ap₂, subst, ◌∙◌}
use mathlib.Core.List.{List, [], ◌++◌, append-nil, append_assoc}
use mathlib.Core.Bool.{false}
use Prim.Native.Nat.{ℕ, ◌+◌, ◌≤◌}
use native.Mathlib.Omega.{arith}
use lib.ListN.{length, length-append}
use Rattle.std.specs.Prelude.{Option, Some, None, Result, Ok, Err}
use Rattle.marc.specs.Known.{Known}
use Rattle.marc.specs.Stream.{records_in}
use Rattle.marc.specs.Printed.{text_from, headings_text}
use Rattle.marc.specs.ListFile.{ListFile}
use Rattle.marc.proofs.Streams.{left_shorter}
use Rattle.marc.proofs.Texts.{text_next, text_none}
use Rattle.marc_input.specs.declared.rest.Rest.{Rest}
use Rattle.marc_input.specs.Rests.{rest_in, MayFollow}
use Rattle.marc_input.specs.Passing.{uncounted}
use Rattle.output.proofs.Saying.{passed_none, passed_then}
use Rattle.output.specs.declared.pending.Failed.{Failed}
use Rattle.headings_of.specs.declared.answering.Turn.{Turn}
use Rattle.headings_of.specs.Turns.{ended, endless, TextOf, NoText, TurnTo, TurnBy, SaidSo, Finished, whole, uncountable, SpokenTo, TurnsBy}
use Rattle.headings_of.specs.Endings.{ListSays}

module _ (heading absent : ℕ) (ks : List Known) where
  abbrev from : ℕ → List ℕ → List ℕ
  from k input = text_from heading absent ks k (records_in input)

  module _ (k : ℕ) (buffer : List ℕ) (rest : Rest) (bytes text : List ℕ) (so : SaidSo heading absent ks k buffer rest bytes text) where
    -- LAW: one record more
    said_on : (now : Rest) (buffer' its : List ℕ) (next : TextOf heading absent ks k buffer rest now buffer' its)
        → SaidSo heading absent ks (k + 1) buffer' now (bytes ++ next.more) (text ++ its)
    said_on now buffer' its next = record { says = says; among = among }
      where
        says : (beyond : List ℕ) → MayFollow now beyond → headings_text heading absent ks ((bytes ++ next.more) ++ beyond) ≡ (text ++ its) ++ from (k + 1) (rest_in buffer' now ++ beyond)
        says beyond may =
            let n = next.next beyond may in
            let left = rest_in buffer' now ++ beyond in
            let step = text_next heading absent ks k ((rest_in buffer rest ++ next.more) ++ beyond) n.0 left n.2 in
            ap (headings_text heading absent ks) (append_assoc bytes next.more beyond)
            ∙ so.says (next.more ++ beyond) (λ o. ap₂ ◌++◌ (next.read.may_follow o) (may (next.read.stays_over o)))
            ∙ ap (λ s. text ++ from k s) (sym (append_assoc (rest_in buffer rest) next.more beyond))
            ∙ ap (λ s. text ++ s) (step ∙ ap (λ t. t ++ from (k + 1) left) (sym n.1))
            ∙ sym (append_assoc text its (from (k + 1) left))

        among : length (rest_in buffer' now) ≤ length (bytes ++ next.more)
        among =
            let n = next.next [] (λ _. refl) in
            let input = (rest_in buffer rest ++ next.more) ++ [] in
            omega (
              arith,
              so.among,
              left_shorter input n.0 (rest_in buffer' now ++ []) n.2,
              ap length (append-nil (rest_in buffer' now)),
              ap length (append-nil (rest_in buffer rest ++ next.more)),
              length-append (rest_in buffer rest) next.more,
              length-append bytes next.more,
            )

    -- LAW: or it was the last
    said_all : (its : List ℕ) (over : NoText heading absent ks buffer rest its) → Finished heading absent ks (bytes ++ over.1.0) (text ++ its)
    said_all its (none, (more, may, ended e)) =
        whole (ap (λ t. text ++ t) (none ∙ sym (text_none heading absent ks k (rest_in buffer rest ++ more) e)) ∙ sym (so.says more may))
    said_all its (none, (more, may, endless l)) = uncountable (omega (arith, so.among, length-append (rest_in buffer rest) more, length-append bytes more))

  module _ (k : ℕ) (before : List ℕ) where
    -- LAW: before the first turn nothing is read or said
    pub turns_none : (buffer : List ℕ) → TurnsBy heading absent ks 0 buffer before (Ok (record { rest = Some (record { at = 0; end = 0; over = false }); standing = 0 })) before
    unfolding headings_text
    turns_none buffer = (
      (omega arith, omega arith),
      record { bytes = []; text = []; has = record { says = λ beyond may. refl; among = omega arith }; written = 0; passed = passed_none (omega arith) },
    )

    -- LAW: one turn more
    pub turns_more : (buffer mid : List ℕ) (rest : Rest) (used : ℕ) → SpokenTo heading absent ks k buffer before (Some rest) used mid
        → (buffer' after : List ℕ) (r : Result Turn Failed) → TurnBy heading absent ks k buffer rest mid used r buffer' after
        → TurnsBy heading absent ks (k + 1) buffer' before r after
    turns_more buffer mid rest used (_, t) buffer' after (Ok turn) r = go turn.rest r
      where
        go : (to : Option Rest) → TurnTo heading absent ks k buffer rest mid used to turn.standing buffer' after → SpokenTo heading absent ks (k + 1) buffer' before to turn.standing after
        go (Some now) r = (
          r.has.read.held,
          record {
            bytes = t.bytes ++ r.has.more;
            text = t.text ++ r.next;
            has = said_on k buffer rest t.bytes t.text t.has now buffer' r.next r.has;
            written = t.written + r.written;
            passed = passed_then (omega arith) t.passed r.passed refl;
          },
        )
        go None r = record {
          bytes = t.bytes ++ r.has.1.0;
          text = t.text ++ r.next;
          has = said_all k buffer rest t.bytes t.text t.has r.next r.has;
          written = t.written + r.written;
          passed = passed_then (omega arith) t.passed r.passed refl;
        }
    turns_more buffer mid rest used t buffer' after (Err failed) r = tt

  -- LAW: once the input is over more turns change nothing
  pub turns_over : (k m : ℕ) (buffer before after : List ℕ) (turn : Turn) → ((rest : Rest) → turn.rest ≡ Some rest → ⊥) → TurnsBy heading absent ks k buffer before (Ok turn) after
      → TurnsBy heading absent ks m buffer before (Ok turn) after
  turns_over k m buffer before after turn over = go turn.rest over
    where
      go : (to : Option Rest) → ((rest : Rest) → to ≡ Some rest → ⊥) → SpokenTo heading absent ks k buffer before to turn.standing after → SpokenTo heading absent ks m buffer before to turn.standing after
      go (Some rest) n t = absurd (n rest refl)
      go None n t = t

  -- LAW: what is still to be written lies in the buffer
  pub turns_inside : (k : ℕ) (buffer before : List ℕ) (rest : Option Rest) (standing : ℕ) (after : List ℕ) → SpokenTo heading absent ks k buffer before rest standing after → standing ≤ length after
  turns_inside k buffer before (Some rest) standing after t = omega (arith, t.1.passed.inside, t.1.passed.same)
  turns_inside k buffer before None standing after t = omega (arith, t.passed.inside, t.passed.same)

-- LAW: what is said by the strings that are lent is said by the list
pub list_says : {file before buffer after : List ℕ} {r : Result Turn Failed} {heading absent : ℕ} {lent ks : List Known} → lent ≡ ks → ListFile file heading absent ks
    → TurnsBy heading absent lent uncounted buffer before r after → ListSays file before r buffer after
list_says {file} {before} {buffer} {after} {r} {heading} {absent} {lent} {ks} e is turns = record {
  heading = heading;
  absent = absent;
  ks = ks;
  is = is;
  turns = subst (λ l. TurnsBy heading absent l uncounted buffer before r after) e turns;
}
