-- A part of a list that is written anew has what was written, and elsewhere is what was there.
use Rattle.std.proofs.Common.{rules, arith, ◌≡◌, List, ℕ, ◌+◌, ◌-◌, ◌<◌, ◌≤◌, length, get_or, ap, ◌∙◌}
use Rattle.std.proofs.lemmas.List.{places}
use borrow.Rule.Slice.PartMut.{put_mid, mid_of, mid_len}
use lib.ListN.{length-replicate}
use Rattle.meaning.specs.Calls.{zeros}

-- n numbers stand from index `from` on, and all else is as it was
pub record Written (from n : ℕ) (part before after : List ℕ) : Type 0 where
  pub long : length after ≡ length before
  pub there : (s : ℕ) → s < n → get_or after (from + s) 0 ≡ get_or part s 0
  pub same_before : (i : ℕ) → i < from → get_or after i 0 ≡ get_or before i 0
  pub same_behind : (i : ℕ) → from + n ≤ i → get_or after i 0 ≡ get_or before i 0

pub written : (from n k : ℕ) (part before : List ℕ) → k ≡ n → from + n ≤ length before → length part ≡ n → Written from n part before (put_mid from k before part)
written from n k part before size room many =
    record {
      long = search (rules, places);
      there = λ s l. search (rules, places);
      same_before = λ i l. search (rules, places);
      same_behind = λ i l. search (rules, places);
    }

-- LAW: zeros, as `fill` says them
pub cleared : (from to n : ℕ) (part before : List ℕ) → from + n ≡ to → to ≤ length before → part ≡ zeros (length (mid_of from (to - from) before))
    → Written from n (zeros n) before (put_mid from (to - from) before part)
cleared from to n part before size room e =
    let many : to - from ≡ n = omega arith in
    let all : part ≡ zeros n = e ∙ ap zeros (mid_len from to before room ∙ many) in
    rw all (written from n (to - from) (zeros n) before many (omega arith) (length-replicate {A = ℕ} n 0))
