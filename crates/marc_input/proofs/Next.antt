-- What comes next in the bytes behind others that were read or passed over comes next in all of them.
use mathlib.Core.Path.{◌≡◌, refl, sym as inv, ap, ◌∙◌}
use mathlib.Core.List.{List, [], ◌++◌, append_assoc}
use Prim.Native.Nat.{ℕ, ◌≤◌}
use native.Mathlib.Omega.{arith}
use lib.ListN.{length, length-append}
use Rattle.input.specs.Unreads.{unread}
use Rattle.input.proofs.Unused.{unread-none}
use Rattle.marc.specs.Stream.{behind_breaks, Coming, coming_in, next_in}
use Rattle.marc.proofs.Streams.{breaks_most}
use Rattle.marc_input.specs.declared.rest.Rest.{Rest}
use Rattle.marc_input.specs.declared.cutting.Cut.{Cut}
use Rattle.marc_input.specs.declared.cutting.Cut.TheVariants.{Whole, TooLong, Ended, Endless}
use Rattle.marc_input.specs.Rests.{rest_in, MayFollow, MoreBy, FilledBy}
use Rattle.marc_input.specs.Passing.{PassedTo}
use Rattle.marc_input.specs.Cuts.{ComesTo, ComesBy, NextBy}
use Rattle.marc_input.proofs.Following.{follow_on, read_on}

module _ (first then : List ℕ → Coming) (before : List ℕ) (rest : Rest) (more : List ℕ) (now : Rest) (after : List ℕ) (r : MoreBy before rest more now after)
    (same : (left : List ℕ) → MayFollow now left → first ((rest_in before rest ++ more) ++ left) ≡ then (rest_in after now ++ left))
    (fewer : length (rest_in after now) ≤ length (rest_in before rest ++ more)) where
  regroup : (further : List ℕ) → rest_in before rest ++ (more ++ further) ≡ (rest_in before rest ++ more) ++ further
  regroup further = inv (append_assoc (rest_in before rest) more further)

  on_to : (Is : List ℕ → Type 0) (left : Rest) (last : List ℕ) → ComesTo then Is after now left last → ComesTo first Is before rest left last
  on_to Is left last c = record {
    more = more ++ c.more;
    read = read_on before rest more now after r c.more left last c.read;
    next = λ beyond may.
        let n = c.next beyond may in (
          n.0,
          n.1,
          ap (λ s. first (s ++ beyond)) (regroup c.more)
              ∙ ap first (append_assoc (rest_in before rest ++ more) c.more beyond)
              ∙ same (c.more ++ beyond) (follow_on after now c.more left last c.read beyond may)
              ∙ ap then (inv (append_assoc (rest_in after now) c.more beyond))
              ∙ n.2,
        );
  }

  -- LAW: whatever was cut
  pub comes_on : (cut : Cut) (last : List ℕ) → ComesBy then after now cut last → ComesBy first before rest cut last
  comes_on (Whole start left) last c = (c.0, on_to (λ bytes. bytes ≡ unread last start left.at) left last c.1)
  comes_on (TooLong left) last c = on_to _ left last c
  comes_on Ended last c = (more ++ c.0, follow_on before rest more now after r c.0 c.1, ap first (regroup c.0) ∙ same c.0 c.1 ∙ c.2)
  comes_on Endless last c = (
    more ++ c.0,
    follow_on before rest more now after r c.0 c.1,
    omega (arith, c.2, fewer, ap length (regroup c.0), length-append (rest_in before rest ++ more) c.0, length-append (rest_in after now) c.0),
  )

-- LAW: behind bytes that were read
pub filled_comes : (next_in_lem : List ℕ → Coming) (before : List ℕ) (rest : Rest) (wanted : ℕ) (now : Rest) (after : List ℕ) → FilledBy before rest wanted now after
    → (cut : Cut) (last : List ℕ) → ComesBy next_in_lem after now cut last → ComesBy next_in_lem before rest cut last
filled_comes next_in_lem before rest wanted now after f =
    comes_on next_in_lem next_in_lem before rest f.more now after f.read (λ left may. ap (λ s. next_in_lem (s ++ left)) (inv f.follows)) (omega (arith, ap length f.follows))

-- LAW: behind line ends
pub passed_comes : (before : List ℕ) (rest now : Rest) (after : List ℕ) → PassedTo behind_breaks before rest now after
    → (cut : Cut) (last : List ℕ) → ComesBy coming_in after now cut last → NextBy before rest cut last
unfolding next_in
passed_comes before rest now after p =
    comes_on next_in coming_in before rest p.more now after p.read behind
    (omega (arith, ap length (p.leaves [] (λ _. refl)), breaks_most ((rest_in before rest ++ p.more) ++ []), length-append (rest_in before rest ++ p.more) [], length-append (rest_in after now) []))
  where
    behind : (left : List ℕ) → MayFollow now left → next_in ((rest_in before rest ++ p.more) ++ left) ≡ coming_in (rest_in after now ++ left)
    behind left may = ap coming_in (p.leaves left may)

-- LAW: where no byte is there
pub none_comes : (buffer : List ℕ) (now : Rest) → now.at ≡ now.end → ComesBy coming_in buffer now Ended buffer
none_comes buffer now e = ([], λ _. refl, ap (λ s. coming_in (s ++ [])) (ap (λ k. unread buffer k now.end) e ∙ unread-none buffer now.end))
