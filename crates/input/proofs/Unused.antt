-- The bytes from one place of a buffer to another, in parts: each law counts how many elements a part takes and where it begins.
use mathlib.Core.Path.{◌≡◌, sym, ap, ap₂, ◌∙◌}
use mathlib.Core.List.{List, [], ◌++◌}
use Prim.Native.Nat.{ℕ, ◌+◌, ◌-◌, ◌≤◌}
use native.Mathlib.Nat.{sub_self, sub-zero}
use native.Mathlib.Omega.{arith}
use lib.ListN.{length, take, drop, length-drop, take-append-drop}
use lib.Seq.{length-take-le, take-take, take-add, drop-drop}
use Rattle.input.specs.Unreads.{unread}

pub length-unread : (buffer : List ℕ) (at end : ℕ) → end ≤ length buffer → length (unread buffer at end) ≡ end - at
length-unread buffer at end l = length-take-le (end - at) (drop at buffer) (omega (arith, length-drop at buffer))

pub unread-none : (buffer : List ℕ) (at : ℕ) → unread buffer at at ≡ []
unread-none buffer at = rw sub_self

pub unread_front : (buffer : List ℕ) (end : ℕ) → unread buffer 0 end ≡ take end buffer
unread_front buffer end = rw sub-zero

-- LAW: the first n of them, and the others
pub unread_split : (buffer : List ℕ) (at n end : ℕ) → at + n ≤ end → unread buffer at end ≡ unread buffer at (at + n) ++ unread buffer (at + n) end
unread_split buffer at n end l =
    let all : end - at ≡ n + (end - (at + n)) = omega arith in
    let first : n ≡ at + n - at = omega arith in
    ap (λ k. take k (drop at buffer)) all
    ∙ take-add n (end - (at + n)) (drop at buffer)
    ∙ ap₂ (λ k rest. take k (drop at buffer) ++ take (end - (at + n)) rest) first (drop-drop n at buffer)

-- LAW: what stands at the front stays there, and some more bytes behind it
pub front_stays : (n m : ℕ) (buffer front : List ℕ) → n ≤ m → take n buffer ≡ front → take m buffer ≡ front ++ drop n (take m buffer)
front_stays n m buffer front l e = sym (take-append-drop n (take m buffer)) ∙ ap (λ s. s ++ drop n (take m buffer)) (take-take n m buffer l ∙ e)

-- LAW: a front of a front that stays, stays
pub front_on : (n m : ℕ) (before after : List ℕ) → n ≤ m → take m after ≡ take m before → take n after ≡ take n before
front_on n m before after l e = sym (take-take n m after l) ∙ ap (take n) e ∙ take-take n m before l
