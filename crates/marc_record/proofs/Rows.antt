-- The rows of the frame, one after the other: each that holds knows that those before it are silent.
use mathlib.Core.Path.{◌≡◌, sym, ap, ◌∙◌}
use Rattle.std.proofs.Common.{Option, Some, None}
use Rattle.std.specs.Option.{option_eq}
use mathlib.Core.List.{List}
use mathlib.Core.Bool.{false, true, false≢true, ◌||◌, not}
use mathlib.Core.Option.{none, some as just}
use Prim.Native.Nat.{ℕ, ◌-◌, ◌/◌, ◌%◌, ◌≤◌, ◌<◌}
use native.Mathlib.Omega.{arith}
use borrow.Author.Tests.{lt-ltb, le-ltb, ltb-true, ltb-false, eqb-true, eq-eqb, ne_eqb, not-false}
use lib.Dec.{eqb, ltb}
use lib.ListN.{length, get_or}
use Rattle.meaning.specs.Refusals.{refusal, first}
use Rattle.theory.proofs.Lemmas.{both_false}
use Rattle.marc.specs.Frame.{digits_at, record_length, base_address, entry_count, entry_fault, field_mark, record_mark, first_place, bad_base, frame_rows}
use Rattle.marc_record.proofs.Numbers.{NumberAt}
use Rattle.marc_record.specs.Frames.{Directory, unended, field_rows}

module _ (r : List ℕ) where
  -- LAW: a base address that passes
  pub directory : (base : ℕ) → base ≡ base_address r → base ≤ 99999 → bad_base r ≡ false → Directory r base ((base - 25) / 12)
  directory base e small fine =
      let a = not (digits_at r 12 5) in
      let b = ltb (base_address r) 25 in
      let c = not (eqb ((base_address r - 25) % 12) 0) in
      let d = not (ltb (base_address r) (length r)) in
      let s = both_false (a || b || c) d fine in
      let t = both_false (a || b) c s.0 in
      let u = both_false a b t.0 in
      let low = ltb-false (base_address r) 25 u.1 in
      let twelve = eqb-true ((base_address r - 25) % 12) 0 (not-false _ t.1) in
      let high = ltb-true (base_address r) (length r) (not-false _ s.1) in
      record { base_is = e; entries_are = ap (λ b. (b - 25) / 12) e; size = omega (arith, low, twelve, e); inside = omega (arith, high, e); small = small }

  -- LAW: the rows behind the leader
  pub at_entry : (p : ℕ) → first_place (entry_count r) (entry_fault r) ≡ just p → just (refusal 17 p) ≡ first (field_rows r)
  unfolding field_rows
  at_entry p e = rw e

  module _ (entries : first_place (entry_count r) (entry_fault r) ≡ none) where
    pub at-directory : (get_or r (base_address r - 1) 0 ≡ field_mark → ⊥) → just (refusal 17 (base_address r - 1)) ≡ first (field_rows r)
    unfolding field_rows
    at-directory n = rw (entries, ne_eqb (get_or r (base_address r - 1) 0) field_mark n)

    module _ (marked : get_or r (base_address r - 1) 0 ≡ field_mark) where
      pub at_field : (p : ℕ) → first_place (entry_count r) (unended r) ≡ just p → just (refusal 17 p) ≡ first (field_rows r)
      unfolding field_rows
      at_field p e = rw (entries, eq-eqb (get_or r (base_address r - 1) 0) field_mark marked, e)

      module _ (fields : first_place (entry_count r) (unended r) ≡ none) where
        pub at_end : (get_or r (length r - 1) 0 ≡ record_mark → ⊥) → just (refusal 17 (length r - 1)) ≡ first (field_rows r)
        unfolding field_rows
        at_end n = rw (entries, eq-eqb (get_or r (base_address r - 1) 0) field_mark marked, fields, ne_eqb (get_or r (length r - 1) 0) record_mark n)

        pub at_none : get_or r (length r - 1) 0 ≡ record_mark → none ≡ first (field_rows r)
        unfolding field_rows
        at_none e = rw (entries, eq-eqb (get_or r (base_address r - 1) 0) field_mark marked, fields, eq-eqb (get_or r (length r - 1) 0) record_mark e)

  -- LAW: the rows before them
  pub too_short : length r < 26 → just (refusal 17 0) ≡ first (frame_rows r)
  unfolding frame_rows
  too_short l = rw (lt-ltb (length r) 26 l)

  module _ (long : 26 ≤ length r) where
    pub no_length : digits_at r 0 5 ≡ false → just (refusal 17 0) ≡ first (frame_rows r)
    unfolding frame_rows
    no_length e = rw (le-ltb (length r) 26 long, e)

    module _ (number : digits_at r 0 5 ≡ true) where
      pub other_length : (record_length r ≡ length r → ⊥) → just (refusal 17 0) ≡ first (frame_rows r)
      unfolding frame_rows
      other_length n = rw (le-ltb (length r) 26 long, number, ne_eqb (record_length r) (length r) n)

      module _ (size : record_length r ≡ length r) where
        pub at_base : bad_base r ≡ true → just (refusal 17 12) ≡ first (frame_rows r)
        unfolding frame_rows
        at_base e = rw (le-ltb (length r) 26 long, number, eq-eqb (record_length r) (length r) size, e)

        pub behind_leader : bad_base r ≡ false → first (field_rows r) ≡ first (frame_rows r)
        unfolding frame_rows field_rows
        behind_leader e = rw (le-ltb (length r) 26 long, number, eq-eqb (record_length r) (length r) size, e)

-- LAW: the record's length, where it was read
pub length_is : (r : List ℕ) (o : Option ℕ) → NumberAt r 0 5 o → not (option_eq eqb o (Some (length r))) ≡ false → (digits_at r 0 5 ≡ true) × (record_length r ≡ length r)
length_is r None h e = cc
length_is r (Some n) h e = (h.0, sym h.1 ∙ eqb-true n (length r) (not-false _ e))

pub length_is_not : (r : List ℕ) (o : Option ℕ) → 26 ≤ length r → NumberAt r 0 5 o → not (option_eq eqb o (Some (length r))) ≡ true → just (refusal 17 0) ≡ first (frame_rows r)
length_is_not r None long h e = no_length r long h
length_is_not r (Some n) long h e = other_length r long h.0 (λ same. false≢true (sym (ap not (eq-eqb n (length r) (h.1 ∙ same))) ∙ e))
