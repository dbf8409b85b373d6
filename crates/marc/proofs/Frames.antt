-- What a record has that passes the frame's tests: no row holds, so what each tests is as it has to be.
use mathlib.Core.Path.{◌≡◌, refl}
use mathlib.Core.List.{List}
use mathlib.Core.Bool.{Bool, true, false, ◌||◌, not}
use mathlib.Core.Option.{Option, none, some as just, some-ne-none}
use Prim.Native.Nat.{ℕ, zero, suc, ◌+◌, ◌-◌, ◌%◌, ◌<◌}
use native.Mathlib.Decide.{dec_lt}
use native.Mathlib.Omega.{arith}
use lib.Dec.{eqb, ltb}
use lib.ListN.{length, get_or}
use borrow.Author.Tests.{ltb-true, ltb-false, eqb-true, eqb-false, not-false}
use Rattle.theory.specs.Least.{or_else}
use Rattle.theory.proofs.Lemmas.{last_or_below, both_false}
use Rattle.meaning.specs.Refusals.{first}
use Rattle.meaning.proofs.First.{all_silent}
use Rattle.marc.specs.Frame.{digits_at, base_address, entry_count, entry_at, field_length, field_end, field_mark, record_mark, at_if, first_place, bad_base, bad_field_length, bad_field_start, entry_fault, unmarked, frame_rows}
use Rattle.marc.specs.Reading.{FieldStands, Framed}

-- ---- places that are not given

pub or_none : (a b : Option ℕ) → or_else a b ≡ none → (a ≡ none) × (b ≡ none)
or_none none b e = (refl, e)
or_none (just i) b e = absurd (some-ne-none i e)

pub at_none : (place : ℕ) (b : Bool) → at_if place b ≡ none → b ≡ false
at_none place true e = absurd (some-ne-none place e)
at_none place false e = refl

pub no_place : (n : ℕ) (f : ℕ → Option ℕ) → first_place n f ≡ none → (k : ℕ) → k < n → f k ≡ none
no_place zero f e k l = absurd (omega arith)
no_place (suc n) f e k l = let q = or_none (first_place n f) (f n) e in last_or_below {P = λ k. f k ≡ none} n q.1 (no_place n f q.0) k l

pub is_marked : (r : List ℕ) (at mark : ℕ) → unmarked r at mark ≡ none → get_or r at 0 ≡ mark
is_marked r at mark e = eqb-true (get_or r at 0) mark (not-false _ (at_none at (not (eqb (get_or r at 0) mark)) e))

-- THEOREM: what a record has that passes
pub framed : (r : List ℕ) → first (frame_rows r) ≡ none → Framed r
unfolding frame_rows
framed r e =
    let q = all_silent (frame_rows r) e in
    let a = not (digits_at r 12 5) in
    let b = ltb (base_address r) 25 in
    let c = not (eqb ((base_address r - 25) % 12) 0) in
    let d = not (ltb (base_address r) (length r)) in
    let s = both_false (a || b || c) d (at_none 12 (bad_base r) q.1.1.0) in
    let t = both_false (a || b) c s.0 in
    let u = both_false a b t.0 in
    let low = ltb-false (base_address r) 25 u.1 in
    let twelve = eqb-true ((base_address r - 25) % 12) 0 (not-false _ t.1) in
    record {
      base_digits = not-false _ u.0;
      base_inside = ltb-true (base_address r) (length r) (not-false _ s.1);
      directory_fits = omega (arith, low, twelve);
      directory_ended = is_marked r (base_address r - 1) field_mark q.1.1.1.1.0;
      each = λ e l. stands e (no_place (entry_count r) (entry_fault r) q.1.1.1.0 e l) (no_place (entry_count r) (λ e. unmarked r (field_end r e - 1) field_mark) q.1.1.1.1.1.0 e l);
      ended = is_marked r (length r - 1) record_mark q.1.1.1.1.1.1.0;
    }
  where
    stands : (e : ℕ) → entry_fault r e ≡ none → unmarked r (field_end r e - 1) field_mark ≡ none → FieldStands r e
    stands e f m =
        let o = or_none (at_if (entry_at e + 3) (bad_field_length r e)) (at_if (entry_at e + 7) (bad_field_start r e)) f in
        let long = both_false (not (digits_at r (entry_at e + 3) 4)) (eqb (field_length r e) 0) (at_none (entry_at e + 3) (bad_field_length r e) o.0) in
        let start = both_false (not (digits_at r (entry_at e + 7) 5)) (not (ltb (field_end r e) (length r))) (at_none (entry_at e + 7) (bad_field_start r e) o.1) in
        record {
          length_digits = not-false _ long.0;
          start_digits = not-false _ start.0;
          behind = omega arith;
          not_empty = above (field_length r e) long.1;
          before_last = ltb-true (field_end r e) (length r) (not-false _ start.1);
          ended = is_marked r (field_end r e - 1) field_mark m;
        }
      where
        above : (n : ℕ) → eqb n 0 ≡ false → 0 < n
        above n h = go (dec_lt 0 n)
          where
            go : Dec (0 < n) → 0 < n
            go (yes p) = p
            go (no p) = absurd (eqb-false n 0 h (omega arith))
