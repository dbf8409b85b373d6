-- A record that comes next has at least a byte, and what is left is shorter than the input; so its records are as many as they are, however long
-- one counts.
use mathlib.Core.Path.{◌≡◌, refl, sym as inv, ap, ap₂, ◌∙◌}
use mathlib.Core.List.{List, [], ◌∷◌, ◌++◌}
use mathlib.Core.Bool.{Bool, true, false, ◌&&◌, cond}
use Prim.Native.Nat.{ℕ, zero, suc, ◌-◌, ◌≤◌, ◌<◌}
use native.Mathlib.Omega.{arith}
use lib.Dec.{eqb, leb}
use lib.ListN.{length, get_or, take, drop, length-append, take-append-drop}
use lib.Seq.{length-take-le, take_at, drop_at}
use borrow.Author.Tests.{leb-true, eqb-true, le-leb, eq-eqb}
use Rattle.theory.proofs.Lemmas.{and_left, and_right}
use Rattle.marc.specs.Frame.{digits_at, record_length, record_mark}
use Rattle.marc.specs.Stream.{is_break_lem, behind_breaks, to_mark, as_said, size_of, Coming, comes, no_more, coming_in, next_in, with_next, records_from, records_in}

-- ---- the next mark

pub mark_most : (bytes : List ℕ) → to_mark bytes ≤ length bytes
unfolding to_mark
mark_most [] = omega arith
mark_most (b ∷ bs) = at_byte (mark_most bs) (eqb b record_mark)
  where
    at_byte : to_mark bs ≤ length bs → (here : Bool) → cond here 1 (suc (to_mark bs)) ≤ suc (length bs)
    at_byte l true = omega arith
    at_byte l false = omega arith

pub mark_some : (b : ℕ) (bs : List ℕ) → 1 ≤ to_mark (b ∷ bs)
unfolding to_mark
mark_some b bs = at_byte (eqb b record_mark)
  where
    at_byte : (here : Bool) → 1 ≤ cond here 1 (suc (to_mark bs))
    at_byte true = omega arith
    at_byte false = omega arith

-- ---- as long as it says, or not

unless : (test : Bool) → (test ≡ true → ⊥) → test ≡ false
unless true n = absurd (n refl)
unless false n = refl

pub record Said (bytes : List ℕ) : Type 0 where
  pub digits : digits_at bytes 0 5 ≡ true
  pub not_few : 26 ≤ record_length bytes
  pub there : record_length bytes ≤ length bytes
  pub marked : get_or bytes (record_length bytes - 1) 0 ≡ record_mark

pub said : (bytes : List ℕ) → as_said bytes ≡ true → Said bytes
unfolding as_said
said bytes e =
    let d = digits_at bytes 0 5 in
    let f = leb 26 (record_length bytes) in
    let t = leb (record_length bytes) (length bytes) in
    let m = eqb (get_or bytes (record_length bytes - 1) 0) record_mark in
    let three = and_left (d && f && t) m e in
    let two = and_left (d && f) t three in
    record {
      digits = and_left d f two;
      not_few = leb-true 26 (record_length bytes) (and_right d f two);
      there = leb-true (record_length bytes) (length bytes) (and_right (d && f) t three);
      marked = eqb-true (get_or bytes (record_length bytes - 1) 0) record_mark (and_right (d && f && t) m e);
    }

-- LAW: and if one of these fails, it is not
pub not_digits : (bytes : List ℕ) → digits_at bytes 0 5 ≡ false → as_said bytes ≡ false
not_digits bytes d = unless (as_said bytes) (λ e. let z : ◌≡◌ {A = ℕ} 0 1 = cc (said bytes e).digits in omega arith)

pub too_few : (bytes : List ℕ) → record_length bytes < 26 → as_said bytes ≡ false
too_few bytes l = unless (as_said bytes) (λ e. omega (arith, (said bytes e).not_few))

pub not_there : (bytes : List ℕ) → length bytes < record_length bytes → as_said bytes ≡ false
not_there bytes l = unless (as_said bytes) (λ e. omega (arith, (said bytes e).there))

pub not_marked : (bytes : List ℕ) → (get_or bytes (record_length bytes - 1) 0 ≡ record_mark → ⊥) → as_said bytes ≡ false
not_marked bytes n = unless (as_said bytes) (λ e. n (said bytes e).marked)

pub is_said : (bytes : List ℕ) → Said bytes → as_said bytes ≡ true
unfolding as_said
is_said bytes s =
    rw (
      s.digits,
      le-leb 26 (record_length bytes) s.not_few,
      le-leb (record_length bytes) (length bytes) s.there,
      eq-eqb (get_or bytes (record_length bytes - 1) 0) record_mark s.marked,
    )

pub size-said : (bytes : List ℕ) → as_said bytes ≡ true → size_of bytes ≡ record_length bytes
unfolding size_of
size-said bytes e = rw e

pub size_marked : (bytes : List ℕ) → as_said bytes ≡ false → size_of bytes ≡ to_mark bytes
unfolding size_of
size_marked bytes e = rw e

-- LAW: a record has at least a byte, and its bytes are there
pub size_pos : (b : ℕ) (bs : List ℕ) → (1 ≤ size_of (b ∷ bs)) × (size_of (b ∷ bs) ≤ length (b ∷ bs))
size_pos b bs = by_test (as_said (b ∷ bs)) refl
  where
    by_test : (s : Bool) → as_said (b ∷ bs) ≡ s → (1 ≤ size_of (b ∷ bs)) × (size_of (b ∷ bs) ≤ length (b ∷ bs))
    by_test true e = let p = said (b ∷ bs) e in let is = size-said (b ∷ bs) e in (omega (arith, p.not_few), omega (arith, p.there))
    by_test false e = let is = size_marked (b ∷ bs) e in (omega (arith, mark_some b bs), omega (arith, mark_most (b ∷ bs)))

-- ---- what comes next

-- LAW: a line end in front is passed over, and no other byte
pub break_goes : (b : ℕ) (bs : List ℕ) → is_break_lem b ≡ true → behind_breaks (b ∷ bs) ≡ behind_breaks bs
unfolding behind_breaks
break_goes b bs e = rw e

pub break_stays : (b : ℕ) (bs : List ℕ) → is_break_lem b ≡ false → behind_breaks (b ∷ bs) ≡ b ∷ bs
unfolding behind_breaks
break_stays b bs e = rw e

pub breaks_most : (input : List ℕ) → length (behind_breaks input) ≤ length input
unfolding behind_breaks
breaks_most [] = omega arith
breaks_most (b ∷ bs) = at_byte (breaks_most bs) (is_break_lem b)
  where
    at_byte : length (behind_breaks bs) ≤ length bs → (here : Bool) → length (cond here (behind_breaks bs) (b ∷ bs)) ≤ suc (length bs)
    at_byte l true = omega arith
    at_byte l false = omega arith

-- the record and what is left, in bytes that begin with it
pub record Parted (bytes left all : List ℕ) : Type 0 where
  pub some : 1 ≤ length bytes
  pub long : length bytes ≡ size_of all
  pub whole : all ≡ bytes ++ left

pub parted : (all bytes left : List ℕ) → coming_in all ≡ comes bytes left → Parted bytes left all
parted [] bytes left e = let z : ◌≡◌ {A = ℕ} 0 1 = cc in absurd (omega arith)
parted (b ∷ bs) bytes left e =
    let first : take (size_of (b ∷ bs)) (b ∷ bs) ≡ bytes = cc in
    let rest : drop (size_of (b ∷ bs)) (b ∷ bs) ≡ left = cc in
    let many : length bytes ≡ size_of (b ∷ bs) = ap length (inv first) ∙ length-take-le (size_of (b ∷ bs)) (b ∷ bs) (size_pos b bs).1 in
    record {
      some = omega (arith, (size_pos b bs).0);
      long = many;
      whole = inv (take-append-drop (size_of (b ∷ bs)) (b ∷ bs)) ∙ ap₂ ◌++◌ first rest;
    }

-- LAW: bytes of the size that is said come next
pub coming_is : (bytes left : List ℕ) → 1 ≤ length bytes → length bytes ≡ size_of (bytes ++ left) → coming_in (bytes ++ left) ≡ comes bytes left
coming_is [] left some long = absurd (omega arith)
coming_is (b ∷ bs) left some long = ap₂ comes (take_at (b ∷ bs) left (size_of (b ∷ (bs ++ left))) long) (drop_at (b ∷ bs) left (size_of (b ∷ (bs ++ left))) long)

pub next_parted : (input bytes left : List ℕ) → next_in input ≡ comes bytes left → Parted bytes left (behind_breaks input)
unfolding next_in
next_parted input bytes left e = parted (behind_breaks input) bytes left e

-- LAW: what is left is shorter
pub left_shorter : (input bytes left : List ℕ) → next_in input ≡ comes bytes left → length left < length input
left_shorter input bytes left e =
    let p = next_parted input bytes left e in
    omega (arith, p.some, ap length p.whole, length-append bytes left, breaks_most input)

-- ---- all records

from_none : (n : ℕ) → records_from n [] ≡ []
unfolding records_from next_in behind_breaks
from_none zero = refl
from_none (suc n) = refl

from_enough : (n m : ℕ) (input : List ℕ) → length input ≤ n → length input ≤ m → records_from n input ≡ records_from m input
unfolding records_from
from_enough zero m [] l k = inv (from_none m)
from_enough zero m (b ∷ bs) l k = absurd (omega arith)
from_enough (suc n) zero [] l k = from_none (suc n)
from_enough (suc n) zero (b ∷ bs) l k = absurd (omega arith)
from_enough (suc n) (suc m) input l k = by_next (λ left. from_enough n m left) (next_in input) refl
  where
    by_next : ((left : List ℕ) → length left ≤ n → length left ≤ m → records_from n left ≡ records_from m left)
        → (next : Coming) → next_in input ≡ next → with_next next [] (λ bytes left. bytes ∷ records_from n left) ≡ with_next next [] (λ bytes left. bytes ∷ records_from m left)
    by_next rec (comes bytes left) e = let less = left_shorter input bytes left e in ap (λ s. bytes ∷ s) (rec left (omega arith) (omega arith))
    by_next rec no_more e = refl

-- LAW: a record comes next, and then those of what is left; or there is none
pub records_step : (input bytes left : List ℕ) → next_in input ≡ comes bytes left → records_in input ≡ bytes ∷ records_in left
unfolding records_in records_from
records_step input bytes left e =
    from_enough (length input) (suc (length input)) input (omega arith) (omega arith)
    ∙ rw e (ap (λ s. bytes ∷ s) (from_enough (length input) (length left) left (omega (arith, left_shorter input bytes left e)) (omega arith)))

pub records_none : (input : List ℕ) → next_in input ≡ no_more → records_in input ≡ []
unfolding records_in records_from
records_none input e = from_enough (length input) (suc (length input)) input (omega arith) (omega arith) ∙ rw e
