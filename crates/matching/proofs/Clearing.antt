-- Clearing a list from some index on, part by part: the part that is passed is what stood before that index and zeros behind it.
use mathlib.Core.Path.{◌≡◌, sym as inv, ap, ◌∙◌}
use mathlib.Core.List.{List, ◌++◌, append_assoc}
use Prim.Native.Nat.{ℕ, ◌+◌, ◌-◌, ◌≤◌}
use native.Mathlib.Omega.{arith}
use borrow.Rule.Slice.PartMut.{put_mid, Post-is, mid_len}
use lib.ListN.{length, take, drop, length-append, length-replicate, replicate-append-replicate}
use lib.Seq.{take_at, length-take-le}
use Rattle.meaning.specs.Calls.{zeros}

-- `out`, which was `before`, is cleared from `from` up to i
pub record Clearing (before : List ℕ) (from : ℕ) (out : List ℕ) (i : ℕ) : Type 0 where
  pub begun : from ≤ i
  pub inside : i ≤ length before
  pub kept : length out ≡ length before
  pub passed : take i out ≡ take from before ++ zeros (i - from)

module _ (before : List ℕ) (from : ℕ) {out : List ℕ} {i : ℕ} (g : Clearing before from out i) where
  -- LAW: a part more, that was lent and is back
  pub clearing_part : (end : ℕ) {part later : List ℕ} → i ≤ end → end ≤ length before → part ≡ zeros (length (take (end - i) (drop i out)))
      → later ≡ put_mid i (end - i) out part → length later ≡ length out → Clearing before from later end
  clearing_part end {part} {later} a b is back same =
      record { begun = omega (arith, g.begun); inside = b; kept = same ∙ g.kept; passed = ap (take end) back ∙ front ∙ joined }
    where
      lent : part ≡ zeros (end - i)
      lent = is ∙ ap zeros (mid_len i end out (omega (arith, g.kept)))

      rest : List ℕ
      rest = drop end out

      all : put_mid i (end - i) out part ≡ (take i out ++ zeros (end - i)) ++ rest
      all =
          ap (λ (l : List ℕ). take i out ++ (part ++ l)) (Post-is i end out a)
          ∙ ap (λ (l : List ℕ). take i out ++ (l ++ rest)) lent
          ∙ inv (append_assoc (take i out) (zeros (end - i)) rest)

      long : length (take i out ++ zeros (end - i)) ≡ end
      long = length-append (take i out) (zeros (end - i)) ∙ omega (arith, length-take-le i out (omega (arith, g.kept, g.inside)), length-replicate {A = ℕ} (end - i) 0)

      front : take end (put_mid i (end - i) out part) ≡ take i out ++ zeros (end - i)
      front = ap (take end) all ∙ take_at (take i out ++ zeros (end - i)) rest end long

      joined : take i out ++ zeros (end - i) ≡ take from before ++ zeros (end - from)
      joined =
          let more : i - from + (end - i) ≡ end - from = omega (arith, g.begun) in
          ap (λ l. l ++ zeros (end - i)) g.passed
          ∙ append_assoc (take from before) (zeros (i - from)) (zeros (end - i))
          ∙ ap (λ l. take from before ++ l) (replicate-append-replicate (i - from) (end - i) 0 ∙ ap zeros more)
