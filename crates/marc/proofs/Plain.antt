-- A record as one writes it passes the frame's tests and is read as the fields that were written.
use mathlib.Core.Path.{◌≡◌, refl, sym as inv, ap, ◌∙◌}
use mathlib.Core.List.{List, [], ◌∷◌, ◌++◌, append_assoc}
use mathlib.Core.Bool.{true}
use mathlib.Core.Option.{Option, none}
use Prim.Native.Nat.{ℕ, zero, suc, ◌+◌, ◌*◌, ◌-◌, ◌%◌, ◌<◌}
use native.Mathlib.Nat.{zero-add}
use native.Mathlib.Omega.{arith}
use lib.ListN.{length, get_or, length-append}
use lib.Seq.{get_or_at}
use borrow.Author.Tests.{lt-ltb, le-ltb, eq-eqb, ne_eqb}
use Rattle.theory.specs.Least.{All}
use Rattle.meaning.specs.Refusals.{first}
use Rattle.meaning.proofs.First.{silent_first}
use Rattle.marc.specs.Frame.{Field, field, field_mark, record_mark, digits_at, decimal_at, record_length, base_address, entry_count, field_length, field_end, fields_from, fields_in, first_place, entry_fault, unmarked, frame_rows}
use Rattle.marc.specs.Plain.{four_digits, five_digits, field_bytes, fields_bytes, directory, base_of, length_of, record_of, Fits, Holds}
use Rattle.marc.specs.Reading.{ReadsPlain}
use Rattle.marc.proofs.Digits.{digits_behind, decimal_behind, five_digits_lem, five_value}
use Rattle.marc.proofs.Entries.{Told, ToldAll, fields_are, told_at, told_all}

-- no place is given
place_none : (n : ℕ) (f : ℕ → Option ℕ) → ((k : ℕ) → k < n → f k ≡ none) → first_place n f ≡ none
place_none zero f h = refl
place_none (suc n) f h = rw (place_none n f (λ k l. h k (omega arith))) (h n (omega arith))

length-directory : (fs : List Field) (start : ℕ) → All Fits fs → length (directory start fs) ≡ 12 * length fs
length-directory [] start a = refl
length-directory (field tag content ∷ fs) start a =
    let n = length (content ++ (field_mark ∷ [])) in
    omega (arith, length-append tag (four_digits n ++ (five_digits start ++ directory (start + n) fs)), length-directory fs (start + n) a.1, a.0.tag_is)

module _ (one two : List ℕ) (fs : List Field) (h : Holds one two fs) where
  abbrev r : List ℕ
  r = record_of one two fs

  abbrev L : ℕ
  L = length_of fs

  abbrev B : ℕ
  B = base_of fs

  -- the record to the base address' number, to the directory, to the fields
  abbrev lead : List ℕ
  lead = five_digits (length_of fs) ++ one

  abbrev leader : List ℕ
  leader = lead ++ (five_digits (base_of fs) ++ two)

  abbrev front : List ℕ
  front = leader ++ (directory 0 fs ++ (field_mark ∷ []))

  at_base : r ≡ lead ++ (five_digits B ++ (two ++ (directory 0 fs ++ (field_mark ∷ (fields_bytes fs ++ (record_mark ∷ []))))))
  unfolding record_of
  at_base = refl

  at-directory : r ≡ leader ++ (directory 0 fs ++ (field_mark ∷ (fields_bytes fs ++ (record_mark ∷ []))))
  at-directory = at_base ∙ inv (append_assoc lead (five_digits B ++ two) (directory 0 fs ++ (field_mark ∷ (fields_bytes fs ++ (record_mark ∷ [])))))

  at_fields : r ≡ front ++ (fields_bytes fs ++ (record_mark ∷ []))
  at_fields =
      let rest = fields_bytes fs ++ (record_mark ∷ []) in
      at-directory
      ∙ ap (λ x. leader ++ x) (inv (append_assoc (directory 0 fs) (field_mark ∷ []) rest))
      ∙ inv (append_assoc leader (directory 0 fs ++ (field_mark ∷ [])) rest)

  twelve : length lead ≡ 12
  twelve = omega (arith, h.seven)

  twenty_four : length leader ≡ 24
  twenty_four = omega (arith, length-append lead (five_digits B ++ two), twelve, h.seven_more)

  front_length : length front ≡ B
  front_length =
      omega (arith, length-append leader (directory 0 fs ++ (field_mark ∷ [])), length-append (directory 0 fs) (field_mark ∷ []), twenty_four, length-directory fs 0 h.each)

  pub all_length : length r ≡ L
  all_length = ap length at_fields ∙ omega (arith, length-append front (fields_bytes fs ++ (record_mark ∷ [])), length-append (fields_bytes fs) (record_mark ∷ []), front_length)

  base_digits : digits_at r 12 5 ≡ true
  base_digits =
      let rest = two ++ (directory 0 fs ++ (field_mark ∷ (fields_bytes fs ++ (record_mark ∷ [])))) in
      ap (λ x. digits_at x 12 5) at_base ∙ digits_behind lead (five_digits B ++ rest) 12 5 twelve ∙ five_digits_lem B rest

  base_read : base_address r ≡ B
  base_read =
      let rest = two ++ (directory 0 fs ++ (field_mark ∷ (fields_bytes fs ++ (record_mark ∷ [])))) in
      ap (λ x. decimal_at x 12 5) at_base ∙ decimal_behind lead (five_digits B ++ rest) 12 5 twelve ∙ five_value B rest (omega (arith, h.short))

  pub length_read : (digits_at r 0 5 ≡ true) × (record_length r ≡ L)
  unfolding record_of
  length_read =
      let rest = one ++ (five_digits B ++ (two ++ (directory 0 fs ++ (field_mark ∷ (fields_bytes fs ++ (record_mark ∷ [])))))) in
      (five_digits_lem L rest, five_value L rest (omega (arith, h.short)))

  count_read : entry_count r ≡ length fs
  count_read = omega (arith, base_read)

  all_told : ToldAll r 0 fs
  all_told =
      told_all r fs 0 0 leader (field_mark ∷ (fields_bytes fs ++ (record_mark ∷ []))) front (record_mark ∷ []) at-directory twenty_four at_fields (omega (arith, front_length, base_read))
      (omega arith) h.each (omega (arith, h.short))

  told : (e : ℕ) → e < entry_count r → (f : Field) × Told r e f
  told e l = rw zero-add at (told_at r fs 0 all_told e (omega (arith, count_read)))

  -- no entry is at fault, and each field has its mark
  no_fault : (e : ℕ) → e < entry_count r → entry_fault r e ≡ none
  no_fault e l =
      let t = (told e l).1 in
      rw (
        t.length_digits,
        ne_eqb (field_length r e) 0 (λ z. omega (arith, t.length_is, some_byte (told e l).0)),
        t.start_digits,
        lt-ltb (field_end r e) (length r) t.inside,
      )
    where
      some_byte : (f : Field) → 0 < length (field_bytes f)
      some_byte (field tag content) = omega (arith, length-append content (field_mark ∷ []))

  marks : (e : ℕ) → e < entry_count r → unmarked r (field_end r e - 1) field_mark ≡ none
  marks e l = rw (eq-eqb (get_or r (field_end r e - 1) 0) field_mark (told e l).1.marked)

  directory_mark : get_or r (base_address r - 1) 0 ≡ field_mark
  directory_mark =
      let at : length (leader ++ directory 0 fs) ≡ base_address r - 1 = omega (arith, length-append leader (directory 0 fs), twenty_four, length-directory fs 0 h.each, base_read) in
      ap (λ x. get_or x (base_address r - 1) 0) (at-directory ∙ inv (append_assoc leader (directory 0 fs) (field_mark ∷ (fields_bytes fs ++ (record_mark ∷ [])))))
      ∙ get_or_at (leader ++ directory 0 fs) field_mark (fields_bytes fs ++ (record_mark ∷ [])) 0 (base_address r - 1) at

  pub last_mark : get_or r (length r - 1) 0 ≡ record_mark
  last_mark =
      let at : length (front ++ fields_bytes fs) ≡ length r - 1 = omega (arith, length-append front (fields_bytes fs), front_length, all_length) in
      ap (λ x. get_or x (length r - 1) 0) (at_fields ∙ inv (append_assoc front (fields_bytes fs) (record_mark ∷ [])))
      ∙ get_or_at (front ++ fields_bytes fs) record_mark [] 0 (length r - 1) at

  -- LAW: it passes the frame's tests
  passes : first (frame_rows r) ≡ none
  unfolding frame_rows
  passes =
      silent_first (frame_rows r) (
        rw (le-ltb (length r) 26 (omega (arith, all_length))),
        (
          rw (length_read.0, eq-eqb (record_length r) (length r) (length_read.1 ∙ inv all_length)),
          (
            rw (
              base_digits,
              le-ltb (base_address r) 25 (omega (arith, base_read)),
              eq-eqb ((base_address r - 25) % 12) 0 (omega (arith, base_read)),
              lt-ltb (base_address r) (length r) (omega (arith, base_read, all_length)),
            ),
            (
              place_none (entry_count r) (entry_fault r) no_fault,
              (
                rw (eq-eqb (get_or r (base_address r - 1) 0) field_mark directory_mark),
                (
                  place_none (entry_count r) (λ e. unmarked r (field_end r e - 1) field_mark) marks,
                  (rw (eq-eqb (get_or r (length r - 1) 0) record_mark last_mark), tt),
                ),
              ),
            ),
          ),
        ),
      )

  -- LAW: and is read as what was written
  same_fields : fields_in r ≡ fs
  unfolding fields_in
  same_fields = ap (fields_from r 0) count_read ∙ fields_are r fs 0 all_told

-- THEOREM: records as one writes them
pub reads_plain : ReadsPlain
reads_plain one two fs h = (passes one two fs h, same_fields one two fs h)
