-- The records with the line ends around them are the whole input, since each step parts it at a place. And a record as one writes it says how long it
-- is and ends with a mark, so that it is the next, whatever stands behind it.
use mathlib.Core.Path.{◌≡◌, refl, sym as inv, ap, subst, ◌∙◌}
use mathlib.Core.List.{List, [], ◌∷◌, ◌++◌, append-nil}
use mathlib.Core.Bool.{Bool, true, false, cond}
use Prim.Native.Nat.{ℕ, zero, suc, ◌-◌, ◌/◌, ◌<◌}
use native.Mathlib.Omega.{arith}
use lib.ListN.{length, get_or, length-append, get_or-append}
use borrow.Author.Tests.{ne_eqb}
use Rattle.marc.specs.Frame.{Field, digits_at, value_at, record_length}
use Rattle.marc.specs.Plain.{digit, length_of, Holds, record_of}
use Rattle.marc.specs.Stream.{is_break_lem, behind_breaks, to_mark, as_said, size_of, Coming, comes, no_more, coming_in, next_in, records_from, records_in}
use Rattle.marc.specs.Streaming.{LineEnds, joined, MadeUp, NothingLost, ComesWhole, ReadsBack, CasesRight}
use Rattle.marc.proofs.Digits.{digits_front, decimal_front}
use Rattle.marc.proofs.Plain.{all_length, length_read, last_mark}
use Rattle.marc.proofs.Streams.{Said, is_said, size-said, break_goes, break_stays, coming_is, next_parted, left_shorter, records_step, records_none}

-- ---- line ends

-- those in front of an input
abbrev breaks_in : List ℕ → List ℕ
breaks_in [] = []
breaks_in (b ∷ bs) = cond (is_break_lem b) (b ∷ breaks_in bs) []

breaks_all : (input : List ℕ) → input ≡ breaks_in input ++ behind_breaks input
unfolding behind_breaks
breaks_all [] = refl
breaks_all (b ∷ bs) = at_byte (breaks_all bs) (is_break_lem b)
  where
    at_byte : bs ≡ breaks_in bs ++ behind_breaks bs → (here : Bool) → b ∷ bs ≡ cond here (b ∷ breaks_in bs) [] ++ cond here (behind_breaks bs) (b ∷ bs)
    at_byte e true = ap (λ s. b ∷ s) e
    at_byte e false = refl

breaks_are : (input : List ℕ) → LineEnds (breaks_in input)
breaks_are [] = tt
breaks_are (b ∷ bs) = at_byte (breaks_are bs) (is_break_lem b) refl
  where
    at_byte : LineEnds (breaks_in bs) → (here : Bool) → is_break_lem b ≡ here → LineEnds (cond here (b ∷ breaks_in bs) [])
    at_byte rec true e = (e, rec)
    at_byte rec false e = tt

behind_breaks_lem : (breaks left : List ℕ) → LineEnds breaks → behind_breaks (breaks ++ left) ≡ behind_breaks left
behind_breaks_lem [] left a = refl
behind_breaks_lem (b ∷ bs) left a = break_goes b (bs ++ left) a.0 ∙ behind_breaks_lem bs left a.1

-- LAW: line ends in front change nothing
next_behind : (breaks left : List ℕ) → LineEnds breaks → next_in (breaks ++ left) ≡ next_in left
unfolding next_in
next_behind breaks left a = ap coming_in (behind_breaks_lem breaks left a)

-- ---- nothing is lost

none_left : (s : List ℕ) → coming_in s ≡ no_more → s ≡ []
none_left [] e = refl
none_left (b ∷ bs) e = let z : ◌≡◌ {A = ℕ} 0 1 = cc in absurd (omega arith)

-- for inputs of less than n bytes
made_up : (n : ℕ) (input : List ℕ) → length input < n → MadeUp input
unfolding next_in
made_up zero input l = absurd (omega arith)
made_up (suc n) input l = by_next (λ left. made_up n left) (next_in input) refl
  where
    by_next : ((left : List ℕ) → length left < n → MadeUp left) → (next : Coming) → next_in input ≡ next → MadeUp input
    by_next rec (comes bytes left) e =
        let p = next_parted input bytes left e in
        let rest = rec left (omega (arith, left_shorter input bytes left e)) in
        record {
          pieces = record { breaks = breaks_in input; bytes = bytes } ∷ rest.pieces;
          last = rest.last;
          before = (breaks_are input, rest.before);
          not_empty = (p.some, rest.not_empty);
          behind = rest.behind;
          is_all = breaks_all input ∙ ap (λ s. breaks_in input ++ s) (p.whole ∙ ap (λ s. bytes ++ s) rest.is_all);
          records = records_step input bytes left e ∙ ap (λ s. bytes ∷ s) rest.records;
        }
    by_next rec no_more e =
        let breaks : breaks_in input ≡ input = inv (breaks_all input ∙ ap (λ s. breaks_in input ++ s) (none_left (behind_breaks input) e) ∙ append-nil _) in
        record {
          pieces = [];
          last = input;
          before = tt;
          not_empty = tt;
          behind = subst LineEnds breaks (breaks_are input);
          is_all = refl;
          records = records_none input e;
        }

-- THEOREM
pub nothing_lost : NothingLost
nothing_lost input = made_up (suc (length input)) input (omega arith)

-- ---- records as one writes them

no_break : (n : ℕ) → is_break_lem (digit n) ≡ false
no_break n = rw (ne_eqb (digit n) 10 (λ e. omega arith), ne_eqb (digit n) 13 (λ e. omega arith))

module _ (one two : List ℕ) (fs : List Field) (left : List ℕ) (h : Holds one two fs) where
  abbrev r : List ℕ
  r = record_of one two fs

  begins : behind_breaks (r ++ left) ≡ r ++ left
  unfolding record_of
  begins = break_stays (digit (length_of fs / 10000)) _ (no_break (length_of fs / 10000))

  many : length r ≡ length_of fs
  many = all_length one two fs h

  says : record_length (r ++ left) ≡ length r
  says = decimal_front r left 0 5 (omega (arith, many)) ∙ (length_read one two fs h).1 ∙ inv many

  whole : Said (r ++ left)
  whole = record {
    digits = digits_front r left 0 5 (omega (arith, many)) ∙ (length_read one two fs h).0;
    not_few = omega (arith, says, many);
    there = omega (arith, says, length-append r left);
    marked = ap (λ n. get_or (r ++ left) (n - 1) 0) says ∙ get_or-append r left 0 (length r - 1) (omega (arith, many)) ∙ last_mark one two fs h;
  }

  comes_next : next_in (r ++ left) ≡ comes r left
  unfolding next_in
  comes_next = ap coming_in begins ∙ coming_is r left (omega (arith, many)) (inv (size-said (r ++ left) (is_said (r ++ left) whole) ∙ says))

-- THEOREM
pub comes_whole : ComesWhole
comes_whole one two fs left h = comes_next one two fs left h

-- THEOREM
pub reads_back : ReadsBack
unfolding next_in behind_breaks
reads_back [] last a ends = records_none last (ap next_in (inv (append-nil last)) ∙ next_behind last [] ends)
reads_back (piece ∷ pieces) last a ends =
    let w = a.0 in
    let left = joined pieces last in
    let next : next_in (piece.breaks ++ (piece.bytes ++ left)) ≡ comes piece.bytes left =
    next_behind piece.breaks (piece.bytes ++ left) w.breaks_are
    ∙ ap (λ s. next_in (s ++ left)) w.bytes_are
    ∙ comes_whole w.one w.two w.fields left w.holds
    ∙ ap (λ s. comes s left) (inv w.bytes_are) in
    records_step (piece.breaks ++ (piece.bytes ++ left)) piece.bytes left next ∙ ap (λ s. piece.bytes ∷ s) (reads_back pieces last a.1 ends)

-- by computing
pub cases_right : CasesRight
unfolding records_in records_from next_in behind_breaks size_of as_said to_mark digits_at value_at
cases_right = (refl, (refl, (refl, (refl, (refl, (refl, (refl, tt)))))))
