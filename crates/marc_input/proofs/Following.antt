-- Bytes that are read follow those that were not used yet; and once the input is over none do, so that what follows later may follow too.
use mathlib.Core.Path.{◌≡◌, refl, sym as inv, ap, ap₂, ◌∙◌}
use mathlib.Core.List.{List, [], ◌++◌, append-nil}
use mathlib.Core.Bool.{Bool, true, false}
use Prim.Native.Nat.{ℕ, ◌-◌, ◌≤◌, ◌<◌}
use native.Mathlib.Omega.{arith}
use lib.Dec.{ltb}
use lib.ListN.{length, length-append}
use borrow.Author.Tests.{ltb-true, ltb-false}
use Rattle.input.specs.declared.unread.Unread.{Unread}
use Rattle.input.specs.Unreads.{ReadBy}
use Rattle.input.proofs.Unused.{length-unread}
use Rattle.marc_input.specs.declared.rest.Rest.{Rest}
use Rattle.marc_input.specs.Rests.{Held, rest_in, MayFollow, MoreBy, FilledBy}

-- LAW: nothing was read
pub nothing_more : (before : List ℕ) (rest : Rest) → Held before rest → MoreBy before rest [] rest before
nothing_more before rest held = record { held = held; same = refl; may_follow = λ o. refl; stays_over = λ o. o }

module _ (before : List ℕ) (rest : Rest) (more : List ℕ) (now : Rest) (after : List ℕ) (r : MoreBy before rest more now after) where
  -- LAW: what may follow may do so behind what was read
  pub follow_on : (beyond : List ℕ) → MayFollow now beyond → MayFollow rest (more ++ beyond)
  follow_on beyond may o = ap₂ ◌++◌ (r.may_follow o) (may (r.stays_over o))

  -- LAW: more is read, and then still more
  pub read_on : (further : List ℕ) (last : Rest) (then : List ℕ) → MoreBy after now further last then → MoreBy before rest (more ++ further) last then
  read_on further last then s = record {
    held = s.held;
    same = s.same ∙ r.same;
    may_follow = follow_on further s.may_follow;
    stays_over = λ o. s.stays_over (r.stays_over o);
  }

  -- LAW: some of the bytes are used
  pub use_to : (to : ℕ) → to ≤ now.end → MoreBy before rest more (record { at = to; end = now.end; over = now.over }) after
  use_to to l = record { held = (l, r.held.1); same = r.same; may_follow = r.may_follow; stays_over = r.stays_over }

module _ (before : List ℕ) (rest : Rest) (wanted : ℕ) where
  -- LAW: nothing is read from an input that is over
  pub filled_over : Held before rest → rest.over ≡ true → FilledBy before rest wanted rest before
  filled_over held o = record {
    more = [];
    read = nothing_more before rest held;
    follows = inv (append-nil _);
    enough = λ goes_on. let z : ◌≡◌ {A = ℕ} 0 1 = cc in absurd (omega arith);
    ended = λ goes_on _. let z : ◌≡◌ {A = ℕ} 0 1 = cc in absurd (omega arith);
  }

  -- LAW: so many bytes are there, or the input is over
  pub filled : rest.over ≡ false → (read : Unread) (over : Bool) (after : List ℕ) → length after ≡ length before → over ≡ ltb (read.end - read.at) wanted → ReadBy before rest.at rest.end wanted read after
      → FilledBy before rest wanted (record { at = read.at; end = read.end; over = over }) after
  filled goes_on read over after same few r = record {
    more = r.more;
    read = record {
      held = (read.ordered, omega (arith, r.within, same));
      same = same;
      may_follow = λ o. let z : ◌≡◌ {A = ℕ} 0 1 = cc in absurd (omega arith);
      stays_over = λ o. let z : ◌≡◌ {A = ℕ} 0 1 = cc in absurd (omega arith);
    };
    follows = r.follows;
    enough = λ e. ltb-false (read.end - read.at) wanted (inv few ∙ e);
    ended = λ _ e. ltb-true (read.end - read.at) wanted (inv few ∙ e);
  }

module _ (before : List ℕ) (rest : Rest) (wanted : ℕ) (now : Rest) (after : List ℕ) (f : FilledBy before rest wanted now after) where
  -- LAW: fewer bytes than are wanted are there only where the input is over
  pub filled_out : now.end - now.at < wanted → now.over ≡ true
  filled_out l = by_over now.over refl
    where
      by_over : (over : Bool) → now.over ≡ over → over ≡ true
      by_over true e = refl
      by_over false e = absurd (omega (arith, f.enough e))

  -- LAW: none of the bytes that were there is lost
  pub filled_more : Held before rest → rest.end - rest.at ≤ now.end - now.at
  filled_more held =
      omega (
        arith,
        length-unread before rest.at rest.end held.1,
        length-unread after now.at now.end f.read.held.1,
        ap length f.follows,
        length-append (rest_in before rest) f.more,
      )
