-- What a record says of its length stands in its first five bytes, whatever follows; that it has so many with a mark at their end is seen once they
-- were read, or the input is over.
use mathlib.Core.Path.{◌≡◌, refl, sym as inv, ap, ◌∙◌}
use mathlib.Core.List.{List, [], ◌++◌, append_assoc}
use mathlib.Core.Bool.{Bool, true, false}
use Prim.Native.Nat.{ℕ, ◌+◌, ◌-◌, ◌≤◌, ◌<◌}
use native.Mathlib.Decide.{dec_lt}
use native.Mathlib.Omega.{arith}
use lib.Dec.{eqb, leb}
use lib.ListN.{length, get_or, take, drop, length-append, take-append-drop, get_or-append}
use lib.Seq.{length-take-le, get_or-take, get_or-drop}
use borrow.Author.Tests.{le-leb, leb-true, eqb-true, eqb-false}
use Rattle.std.proofs.Common.{Some, None}
use Rattle.theory.proofs.Lemmas.{and_left, and_right}
use Rattle.input.specs.Unreads.{unread}
use Rattle.input.proofs.Unused.{length-unread}
use Rattle.marc.specs.Frame.{record_mark, digits_at, decimal_at, record_length}
use Rattle.marc.specs.Stream.{size_of, coming_in}
use Rattle.marc.proofs.Digits.{digits_behind, decimal_behind, digits_front, decimal_front, digits_there, five_most}
use Rattle.marc.proofs.Streams.{is_said, not_digits, too_few, not_there, not_marked, size-said, coming_is}
use Rattle.marc_input.specs.declared.rest.Rest.{Rest}
use Rattle.marc_input.specs.declared.cutting.Cut.TheVariants.{Whole}
use Rattle.marc_input.specs.Rests.{Held, rest_in, FilledBy}
use Rattle.marc_input.specs.Cuts.{ComesBy, Says, NotAsSaid, SaidBy, ends_marked_lem}
use Rattle.marc_input.proofs.Following.{use_to, filled_out}
use Rattle.marc_input.proofs.Marks.{unread_parts}

module _ (buffer : List ℕ) (rest : Rest) (held : Held buffer rest) where
  abbrev S : List ℕ
  S = rest_in buffer rest

  -- LAW: the input is over before five bytes
  pub said_short : (rest.over ≡ false → 5 ≤ rest.end - rest.at) → rest.end - rest.at < 5 → SaidBy buffer rest None
  said_short goes_on l = λ beyond may. not_digits (S ++ beyond) (by_digits beyond (may over) (digits_at (S ++ beyond) 0 5) refl)
    where
      over : rest.over ≡ true
      over = by_over rest.over refl
        where
          by_over : (o : Bool) → rest.over ≡ o → o ≡ true
          by_over true e = refl
          by_over false e = absurd (omega (arith, goes_on e))

      by_digits : (beyond : List ℕ) → beyond ≡ [] → (d : Bool) → digits_at (S ++ beyond) 0 5 ≡ d → d ≡ false
      by_digits beyond e true d =
          absurd (omega (arith, digits_there (S ++ beyond) 0 5 (omega arith) d, length-append S beyond, ap length e, length-unread buffer rest.at rest.end held.1))
      by_digits beyond e false d = refl

  -- the five bytes are the record's first, whatever follows
  module _ (five : 5 ≤ rest.end - rest.at) where
    here : length (take rest.at buffer) ≡ rest.at
    here = length-take-le rest.at buffer (omega (arith, held.0, held.1))

    there : 0 + 5 ≤ length S
    there = omega (arith, length-unread buffer rest.at rest.end held.1)

    abbrev tail : List ℕ
    tail = drop rest.at buffer

    digits_in : (beyond : List ℕ) → digits_at (S ++ beyond) 0 5 ≡ digits_at buffer rest.at 5
    digits_in beyond =
        digits_front S beyond 0 5 there
        ∙ inv (digits_front S (drop (rest.end - rest.at) tail) 0 5 there)
        ∙ ap (λ s. digits_at s 0 5) (take-append-drop (rest.end - rest.at) tail)
        ∙ inv (digits_behind (take rest.at buffer) tail rest.at 5 here)
        ∙ ap (λ s. digits_at s rest.at 5) (take-append-drop rest.at buffer)

    length_in_lem : (beyond : List ℕ) → record_length (S ++ beyond) ≡ decimal_at buffer rest.at 5
    length_in_lem beyond =
        decimal_front S beyond 0 5 there
        ∙ inv (decimal_front S (drop (rest.end - rest.at) tail) 0 5 there)
        ∙ ap (λ s. decimal_at s 0 5) (take-append-drop (rest.end - rest.at) tail)
        ∙ inv (decimal_behind (take rest.at buffer) tail rest.at 5 here)
        ∙ ap (λ s. decimal_at s rest.at 5) (take-append-drop rest.at buffer)

    -- LAW: they are no digits
    pub said_other : digits_at buffer rest.at 5 ≡ false → SaidBy buffer rest None
    said_other e = λ beyond may. not_digits (S ++ beyond) (digits_in beyond ∙ e)

    module _ (count : ℕ) (is : count ≡ decimal_at buffer rest.at 5) where
      -- LAW: they say too few
      pub said_few : count < 26 → SaidBy buffer rest None
      said_few l = λ beyond may. too_few (S ++ beyond) (omega (arith, length_in_lem beyond))

      -- LAW: they say so many
      pub said_many : digits_at buffer rest.at 5 ≡ true → 26 ≤ count → SaidBy buffer rest (Some count)
      said_many e l = (omega (arith, length_in_lem [], five_most (S ++ []) (digits_in [] ∙ e)), l, λ beyond. (digits_in beyond ∙ e, length_in_lem beyond ∙ inv is))

-- ---- whether it is so

module _ (before : List ℕ) (rest : Rest) (count : ℕ) (some : 26 ≤ count) (says : Says count (rest_in before rest)) (now : Rest) (after : List ℕ) (f : FilledBy before rest count now after) where
  abbrev all : List ℕ → List ℕ
  all beyond = rest_in after now ++ beyond

  as_before : (beyond : List ℕ) → all beyond ≡ rest_in before rest ++ (f.more ++ beyond)
  as_before beyond = ap (λ s. s ++ beyond) f.follows ∙ append_assoc (rest_in before rest) f.more beyond

  still_digits : (beyond : List ℕ) → digits_at (all beyond) 0 5 ≡ true
  still_digits beyond = ap (λ s. digits_at s 0 5) (as_before beyond) ∙ (says (f.more ++ beyond)).0

  still_says : (beyond : List ℕ) → record_length (all beyond) ≡ count
  still_says beyond = ap record_length (as_before beyond) ∙ (says (f.more ++ beyond)).1

  many : (beyond : List ℕ) → length (all beyond) ≡ now.end - now.at + length beyond
  many beyond = length-append (rest_in after now) beyond ∙ ap (λ n. n + length beyond) (length-unread after now.at now.end f.read.held.1)

  -- the input is over before
  cut_off : now.end - now.at < count → NotAsSaid after now
  cut_off l beyond may =
      let nothing : beyond ≡ [] = may (filled_out before rest count now after f l) in
      not_there (all beyond) (omega (arith, many beyond, still_says beyond, ap length nothing))

  last_byte : count ≤ now.end - now.at → (beyond : List ℕ) → get_or (all beyond) (record_length (all beyond) - 1) 0 ≡ get_or after (now.at + count - 1) 0
  last_byte enough beyond =
      let at : now.at + (count - 1) ≡ now.at + count - 1 = omega arith in
      ap (λ n. get_or (all beyond) (n - 1) 0) (still_says beyond)
      ∙ get_or-append (rest_in after now) beyond 0 (count - 1) (omega (arith, length-unread after now.at now.end f.read.held.1))
      ∙ get_or-take (now.end - now.at) (drop now.at after) (count - 1) 0 (omega arith)
      ∙ get_or-drop now.at after (count - 1) 0
      ∙ ap (λ i. get_or after i 0) at

  -- LAW: it is not as long as it says
  pub cut_other : ends_marked_lem after now count ≡ false → NotAsSaid after now
  cut_other e = by_count (dec_lt (now.end - now.at) count)
    where
      by_count : Dec (now.end - now.at < count) → NotAsSaid after now
      by_count (yes l) = cut_off l
      by_count (no l) =
          let enough : count ≤ now.end - now.at = omega arith in
          let other : eqb (get_or after (now.at + count - 1) 0) record_mark ≡ false = rw (le-leb count (now.end - now.at) enough) at e in
          λ beyond may. not_marked (all beyond) (λ m. eqb-false (get_or after (now.at + count - 1) 0) record_mark other (inv (last_byte enough beyond) ∙ m))

  -- LAW: it is as long as it says
  pub cut_there : ends_marked_lem after now count ≡ true → ComesBy coming_in before rest (Whole now.at (record { at = now.at + count; end = now.end; over = now.over })) after
  cut_there e =
      let enough = leb-true count (now.end - now.at) (and_left (leb count (now.end - now.at)) (eqb (get_or after (now.at + count - 1) 0) record_mark) e) in
      let ended = eqb-true (get_or after (now.at + count - 1) 0) record_mark (and_right (leb count (now.end - now.at)) (eqb (get_or after (now.at + count - 1) 0) record_mark) e) in
      let behind = now.at + count in
      let within : behind ≤ now.end = omega (arith, f.read.held.0) in
      let bytes = unread after now.at behind in
      let left = unread after behind now.end in
      let long : length bytes ≡ count = length-unread after now.at behind (omega (arith, f.read.held.1)) ∙ omega arith in (
        omega arith,
        record {
          more = f.more;
          read = use_to before rest f.more now after f.read behind within;
          next = λ beyond may.
              let whole : all beyond ≡ bytes ++ (left ++ beyond) = ap (λ s. s ++ beyond) (unread_parts after now.at behind now.end (omega arith) within) ∙ append_assoc bytes left beyond in
              let said = is_said (all beyond) (record {
                digits = still_digits beyond;
                not_few = omega (arith, still_says beyond);
                there = omega (arith, still_says beyond, many beyond);
                marked = last_byte enough beyond ∙ ended;
              }) in
              let size : length bytes ≡ size_of (bytes ++ (left ++ beyond)) = long ∙ inv (ap size_of (inv whole) ∙ size-said (all beyond) said ∙ still_says beyond) in
              (bytes, refl, ap (λ s. coming_in (s ++ beyond)) (inv f.follows) ∙ ap coming_in whole ∙ coming_is bytes (left ++ beyond) (omega arith) size);
        },
      )
