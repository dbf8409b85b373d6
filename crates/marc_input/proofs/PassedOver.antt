-- While bytes are passed over, those that are gone and those in the buffer are together all that was there and was read since; and what is sought is
-- the same behind those that are gone.
use mathlib.Core.Path.{◌≡◌, refl, sym as inv, ap, ap₂, subst, ◌∙◌}
use mathlib.Core.List.{List, [], ◌++◌, append_assoc, append-nil}
use mathlib.Core.Bool.{true, false}
use Prim.Native.Nat.{ℕ, ◌+◌, ◌≤◌, ◌<◌}
use native.Mathlib.Omega.{arith}
use lib.ListN.{length, get_or, length-append}
use Rattle.input.specs.Unreads.{unread}
use Rattle.input.proofs.Unused.{length-unread, unread-none}
use Rattle.marc.specs.Stream.{is_break_lem, behind_breaks}
use Rattle.marc.proofs.Streams.{break_goes, break_stays}
use Rattle.marc_input.specs.declared.rest.Rest.{Rest}
use Rattle.std.proofs.Common.{None}
use Rattle.marc_input.specs.Rests.{Held, rest_in, MayFollow, MoreBy, FilledBy}
use Rattle.marc_input.specs.Passing.{uncounted, PassedTo, PassedBy}
use Rattle.marc_input.proofs.Following.{nothing_more, read_on, use_to, filled_out}
use Rattle.marc_input.proofs.Marks.{unread_parts, unread-first, unread_one}

pub record Passing (behind : List ℕ → List ℕ) (before : List ℕ) (rest : Rest) (buffer : List ℕ) (now : Rest) (counter : ℕ) : Type 0 where
  pub gone : List ℕ
  pub more : List ℕ
  pub read : MoreBy before rest more now buffer
  pub all : rest_in before rest ++ more ≡ gone ++ rest_in buffer now
  pub passes : (left : List ℕ) → behind (gone ++ left) ≡ behind left
  pub many : counter ≤ length gone

module _ (behind : List ℕ → List ℕ) (before : List ℕ) (rest : Rest) where
  pub passing_first : Held before rest → Passing behind before rest before rest 0
  passing_first held = record { gone = []; more = []; read = nothing_more before rest held; all = append-nil _; passes = λ left. refl; many = omega arith }

  module _ (buffer : List ℕ) (now : Rest) (counter : ℕ) (p : Passing behind before rest buffer now counter) where
    -- LAW: more is read
    pub passing_fill : (wanted : ℕ) (next : Rest) (after : List ℕ) → FilledBy buffer now wanted next after → Passing behind before rest after next counter
    passing_fill wanted next after f = record {
      gone = p.gone;
      more = p.more ++ f.more;
      read = read_on before rest p.more now buffer p.read f.more next after f.read;
      all =
          inv (append_assoc (rest_in before rest) p.more f.more)
          ∙ ap (λ s. s ++ f.more) p.all
          ∙ append_assoc p.gone (rest_in buffer now) f.more
          ∙ ap (λ s. p.gone ++ s) (inv f.follows);
      passes = p.passes;
      many = p.many;
    }

    -- LAW: at least a byte more is passed over
    pub passing_on : (to : ℕ) → now.at < to → to ≤ now.end → ((left : List ℕ) → behind (unread buffer now.at to ++ left) ≡ behind left)
        → Passing behind before rest buffer (record { at = to; end = now.end; over = now.over }) (counter + 1)
    passing_on to l k h =
        let part = unread buffer now.at to in
        record {
          gone = p.gone ++ part;
          more = p.more;
          read = use_to before rest p.more now buffer p.read to k;
          all = p.all ∙ ap (λ s. p.gone ++ s) (unread_parts buffer now.at to now.end (omega arith) k) ∙ inv (append_assoc p.gone part (unread buffer to now.end));
          passes = λ left. ap behind (append_assoc p.gone part left) ∙ p.passes (part ++ left) ∙ h left;
          many = omega (arith, p.many, length-append p.gone part, length-unread buffer now.at to (omega (arith, p.read.held.1)));
        }

    -- LAW: what is sought begins here
    pub passing_to : (to : ℕ) → to ≤ now.end → ((beyond : List ℕ) → MayFollow now beyond → behind (rest_in buffer now ++ beyond) ≡ unread buffer to now.end ++ beyond)
        → PassedTo behind before rest (record { at = to; end = now.end; over = now.over }) buffer
    passing_to to k h = record {
      more = p.more;
      read = use_to before rest p.more now buffer p.read to k;
      leaves = λ beyond may.
          ap (λ s. behind (s ++ beyond)) p.all
          ∙ ap behind (append_assoc p.gone (rest_in buffer now) beyond)
          ∙ p.passes (rest_in buffer now ++ beyond)
          ∙ h beyond may;
    }

    -- LAW: as many turns as can be counted passed over as many bytes
    pub passing_endless : uncounted ≤ counter → PassedBy behind before rest None buffer
    passing_endless l = (p.more, p.read.may_follow, omega (arith, ap length p.all, length-append p.gone (rest_in buffer now), p.many))

-- ---- no byte is there

module _ (before : List ℕ) (rest now : Rest) (after : List ℕ) (f : FilledBy before rest 1 now after) (e : now.at ≡ now.end) where
  -- LAW: then the input is over, and nothing is behind
  pub none_behind : (behind : List ℕ → List ℕ) → behind [] ≡ [] → (beyond : List ℕ) → MayFollow now beyond → behind (rest_in after now ++ beyond) ≡ rest_in after now ++ beyond
  none_behind behind none beyond may =
      let nothing : rest_in after now ≡ [] = ap (λ k. unread after k now.end) e ∙ unread-none after now.end in
      let all : rest_in after now ++ beyond ≡ [] = ap₂ ◌++◌ nothing (may (filled_out before rest 1 now after f (omega arith))) in
      ap behind all ∙ none ∙ inv all

-- ---- line ends

pub no_break_none : behind_breaks [] ≡ []
unfolding behind_breaks
no_break_none = refl

module _ (buffer : List ℕ) (at : ℕ) where
  -- LAW: a line end is passed over
  pub break_passes : at < length buffer → is_break_lem (get_or buffer at 0) ≡ true → (left : List ℕ) → behind_breaks (unread buffer at (at + 1) ++ left) ≡ behind_breaks left
  break_passes l e left = ap (λ s. behind_breaks (s ++ left)) (unread_one buffer at l) ∙ break_goes (get_or buffer at 0) left e

  -- LAW: and no other byte
  pub break_stops : (end : ℕ) → at < end → end ≤ length buffer → is_break_lem (get_or buffer at 0) ≡ false
      → (beyond : List ℕ) → behind_breaks (unread buffer at end ++ beyond) ≡ unread buffer at end ++ beyond
  break_stops end l k e beyond =
      subst (λ s. behind_breaks (s ++ beyond) ≡ s ++ beyond) (inv (unread-first buffer at end l k)) (break_stays (get_or buffer at 0) (unread buffer (at + 1) end ++ beyond) e)
