-- A directory as one writes it is read entry by entry: each entry's numbers say where its field stands, and there it is.
use mathlib.Core.Path.{◌≡◌, refl, sym as inv, ap, ap₂, ◌∙◌}
use mathlib.Core.List.{List, [], ◌∷◌, ◌++◌, append_assoc}
use mathlib.Core.Bool.{true}
use Prim.Native.Nat.{ℕ, zero, suc, ◌+◌, ◌-◌, ◌≤◌, ◌<◌}
use native.Mathlib.Omega.{arith}
use lib.ListN.{length, get_or, take, drop, length-append}
use lib.Seq.{take_at, drop_at, get_or_at}
use Rattle.theory.specs.Least.{All}
use Rattle.marc.specs.Frame.{Field, field, field_mark, digits_at, decimal_at, base_address, entry_at, field_length, field_at, field_end, field_in, fields_from}
use Rattle.marc.specs.Plain.{four_digits, five_digits, field_bytes, fields_bytes, directory, Fits}
use Rattle.marc.proofs.Digits.{digits_behind, decimal_behind, four_digits_lem, five_digits_lem, four_value, five_value}

-- entry k of the record tells of this field
pub record Told (r : List ℕ) (k : ℕ) (f : Field) : Type 0 where
  pub length_digits : digits_at r (entry_at k + 3) 4 ≡ true
  pub length_is : field_length r k ≡ length (field_bytes f)
  pub start_digits : digits_at r (entry_at k + 7) 5 ≡ true
  pub inside : field_end r k < length r
  pub marked : get_or r (field_end r k - 1) 0 ≡ field_mark
  pub field_is : field_in r k ≡ f

-- so do the entries from k on
abbrev pub ToldAll : List ℕ → ℕ → List Field → Type 0
ToldAll r k [] = Unit {0}
ToldAll r k (f ∷ fs) = Told r k f × ToldAll r (suc k) fs

-- LAW: then the fields are read
pub fields_are : (r : List ℕ) (fs : List Field) (k : ℕ) → ToldAll r k fs → fields_from r k (length fs) ≡ fs
fields_are r [] k t = refl
fields_are r (f ∷ fs) k t = ap₂ ◌∷◌ t.0.field_is (fields_are r fs (suc k) t.1)

-- LAW: and each entry below so many tells of one
pub told_at : (r : List ℕ) (fs : List Field) (k : ℕ) → ToldAll r k fs → (e : ℕ) → e < length fs → (f : Field) × Told r (k + e) f
told_at r [] k t e l = absurd (omega arith)
told_at r (f ∷ fs) k t zero l = let z : k ≡ k + 0 = omega arith in (f, rw z at t.0)
told_at r (f ∷ fs) k t (suc e) l =
    let z : suc k + e ≡ k + suc e = omega arith in
    rw z at (told_at r fs (suc k) t.1 e (omega arith))

module _ (r : List ℕ) where
  -- one entry
  module _ (k start : ℕ) (tag content : List ℕ) (pre after front behind : List ℕ) (is : r ≡ pre ++ (tag ++ (four_digits (length (content ++ (field_mark ∷ []))) ++ (five_digits start ++ after))))
      (stands : r ≡ front ++ (content ++ (field_mark ∷ behind))) (here : length pre ≡ entry_at k) (there : length front ≡ base_address r + start) (fits : Fits (field tag content))
      (low : start < 100000) (more : 1 ≤ length behind) where
    n : ℕ
    n = length (content ++ (field_mark ∷ []))

    one_more : length (content ++ (field_mark ∷ [])) ≡ length content + 1
    one_more = length-append content (field_mark ∷ [])

    -- the record behind the tag, behind the length
    at_length : r ≡ (pre ++ tag) ++ (four_digits (length (content ++ (field_mark ∷ []))) ++ (five_digits start ++ after))
    at_length = is ∙ inv (append_assoc pre tag (four_digits (length (content ++ (field_mark ∷ []))) ++ (five_digits start ++ after)))

    at_start : r ≡ ((pre ++ tag) ++ four_digits (length (content ++ (field_mark ∷ [])))) ++ (five_digits start ++ after)
    at_start = at_length ∙ inv (append_assoc (pre ++ tag) (four_digits (length (content ++ (field_mark ∷ [])))) (five_digits start ++ after))

    three_on : length (pre ++ tag) ≡ entry_at k + 3
    three_on = omega (arith, length-append pre tag, fits.tag_is)

    seven_on : length ((pre ++ tag) ++ four_digits (length (content ++ (field_mark ∷ [])))) ≡ entry_at k + 7
    seven_on = omega (arith, length-append (pre ++ tag) (four_digits (length (content ++ (field_mark ∷ [])))), three_on)

    length_read : field_length r k ≡ length (content ++ (field_mark ∷ []))
    length_read =
        ap (λ x. decimal_at x (entry_at k + 3) 4) at_length
        ∙ decimal_behind (pre ++ tag) (four_digits (length (content ++ (field_mark ∷ []))) ++ (five_digits start ++ after)) (entry_at k + 3) 4 three_on
        ∙ four_value (length (content ++ (field_mark ∷ []))) (five_digits start ++ after) (omega (arith, fits.short))

    start_read : decimal_at r (entry_at k + 7) 5 ≡ start
    start_read =
        ap (λ x. decimal_at x (entry_at k + 7) 5) at_start
        ∙ decimal_behind ((pre ++ tag) ++ four_digits (length (content ++ (field_mark ∷ [])))) (five_digits start ++ after) (entry_at k + 7) 5 seven_on
        ∙ five_value start after low

    begins : field_at r k ≡ length front
    begins = ap (λ s. base_address r + s) start_read ∙ inv there

    ends : field_end r k ≡ length front + length content + 1
    ends = omega (arith, begins, length_read, one_more)

    length_all : length r ≡ length front + (length content + (1 + length behind))
    length_all = ap length stands ∙ omega (arith, length-append front (content ++ (field_mark ∷ behind)), length-append content (field_mark ∷ behind))

    pub told : Told r k (field tag content)
    told =
        record {
          length_digits =
              ap (λ x. digits_at x (entry_at k + 3) 4) at_length
              ∙ digits_behind (pre ++ tag) (four_digits (length (content ++ (field_mark ∷ []))) ++ (five_digits start ++ after)) (entry_at k + 3) 4 three_on
              ∙ four_digits_lem (length (content ++ (field_mark ∷ []))) (five_digits start ++ after);
          length_is = length_read;
          start_digits =
              ap (λ x. digits_at x (entry_at k + 7) 5) at_start
              ∙ digits_behind ((pre ++ tag) ++ four_digits (length (content ++ (field_mark ∷ [])))) (five_digits start ++ after) (entry_at k + 7) 5 seven_on
              ∙ five_digits_lem start after;
          inside = omega (arith, ends, length_all);
          marked = mark;
          field_is = ap₂ field the_tag the_content;
        }
      where
        mark : get_or r (field_end r k - 1) 0 ≡ field_mark
        mark =
            let at : length (front ++ content) ≡ field_end r k - 1 = omega (arith, length-append front content, ends) in
            ap (λ x. get_or x (field_end r k - 1) 0) (stands ∙ inv (append_assoc front content (field_mark ∷ behind)))
            ∙ get_or_at (front ++ content) field_mark behind 0 (field_end r k - 1) at

        the_tag : take 3 (drop (entry_at k) r) ≡ tag
        the_tag =
            let rest = four_digits (length (content ++ (field_mark ∷ []))) ++ (five_digits start ++ after) in
            ap (λ x. take 3 (drop (entry_at k) x)) is ∙ ap (take 3) (drop_at pre (tag ++ rest) (entry_at k) here) ∙ take_at tag rest 3 fits.tag_is

        the_content : take (field_length r k - 1) (drop (field_at r k) r) ≡ content
        the_content =
            let long : length content ≡ field_length r k - 1 = omega (arith, length_read, one_more) in
            ap (λ x. take (field_length r k - 1) (drop (field_at r k) x)) stands
            ∙ ap (take (field_length r k - 1)) (drop_at front (content ++ (field_mark ∷ behind)) (field_at r k) (inv begins))
            ∙ take_at content (field_mark ∷ behind) (field_length r k - 1) long

  -- LAW: the entries of a directory tell of the fields
  pub told_all : (fs : List Field) (k start : ℕ) (pre post front behind : List ℕ) → r ≡ pre ++ (directory start fs ++ post) → length pre ≡ entry_at k
      → r ≡ front ++ (fields_bytes fs ++ behind) → length front ≡ base_address r + start → 1 ≤ length behind → All Fits fs → start + length (fields_bytes fs) < 100000 → ToldAll r k fs
  told_all [] k start pre post front behind e l f m b a s = tt
  told_all (field tag content ∷ fs) k start pre post front behind e l f m b a s =
      let bytes = content ++ (field_mark ∷ []) in
      let n = length bytes in
      let D = directory (start + n) fs in
      let F = fields_bytes fs in
      let is : r ≡ pre ++ (tag ++ (four_digits n ++ (five_digits start ++ (D ++ post)))) = e ∙ ap (λ x. pre ++ x) (append_assoc tag (four_digits n ++ (five_digits start ++ D)) post) in
      let on : r ≡ front ++ (bytes ++ (F ++ behind)) = f ∙ ap (λ x. front ++ x) (append_assoc bytes F behind) in
      let stands : r ≡ front ++ (content ++ (field_mark ∷ (F ++ behind))) = on ∙ ap (λ x. front ++ x) (append_assoc content (field_mark ∷ []) (F ++ behind)) in
      let size : length (bytes ++ F) ≡ n + length F = length-append bytes F in
      let next : r ≡ (((pre ++ tag) ++ four_digits n) ++ five_digits start) ++ (D ++ post) =
      is ∙ inv (append_assoc pre tag (four_digits n ++ (five_digits start ++ (D ++ post))))
      ∙ inv (append_assoc (pre ++ tag) (four_digits n) (five_digits start ++ (D ++ post)))
      ∙ inv (append_assoc ((pre ++ tag) ++ four_digits n) (five_digits start) (D ++ post)) in
      let further : length (((pre ++ tag) ++ four_digits n) ++ five_digits start) ≡ entry_at (suc k) =
      omega (arith, length-append ((pre ++ tag) ++ four_digits n) (five_digits start), length-append (pre ++ tag) (four_digits n), length-append pre tag, a.0.tag_is) in (
        told k start tag content pre (D ++ post) front (F ++ behind) is stands l m a.0 (omega (arith, size)) (omega (arith, length-append F behind)),
        told_all fs (suc k) (start + n) (((pre ++ tag) ++ four_digits n) ++ five_digits start) post (front ++ bytes) behind next further
            (on ∙ inv (append_assoc front bytes (F ++ behind))) (omega (arith, length-append front bytes)) b a.1 (omega (arith, size)),
      )
