-- A record that is not as long as it says ends with the next mark: it is among the bytes that were read, or the input is over, or it comes when
-- more has been passed over than a record may have.
use mathlib.Core.Path.{◌≡◌, refl, sym as inv, ap, ◌∙◌}
use mathlib.Core.List.{List, [], ◌++◌, append_assoc}
use mathlib.Core.Bool.{true, false}
use Prim.Native.Nat.{ℕ, ◌+◌, ◌-◌, ◌≤◌, ◌<◌}
use native.Mathlib.Omega.{arith}
use lib.ListN.{length, take, length-append, take-append-drop}
use lib.Seq.{length-take-le}
use Rattle.input.specs.Unreads.{unread}
use Rattle.input.proofs.Unused.{length-unread, unread-none}
use Rattle.marc.specs.Stream.{to_mark, as_said, size_of, coming_in, comes}
use Rattle.marc.proofs.Streams.{mark_most, size_marked, coming_is}
use Rattle.marc_input.specs.declared.rest.Rest.{Rest}
use Rattle.std.proofs.Common.{Some, None}
use Rattle.marc_input.specs.declared.cutting.Cut.TheVariants.{Whole, TooLong, Endless}
use Rattle.marc_input.specs.Rests.{Held, rest_in, MayFollow}
use Rattle.marc_input.specs.Passing.{MarkBy, behind_mark, PassedBy}
use Rattle.marc_input.specs.Cuts.{ComesBy, NotAsSaid, ToMarkBy}
use Rattle.marc_input.proofs.Following.{follow_on, read_on, use_to}
use Rattle.marc_input.proofs.Marks.{marked_parts, marked_length}

-- all of the bytes are used
abbrev pub used_up : Rest → Rest
used_up now = record { at = now.end; end = now.end; over = now.over }

module _ (before : List ℕ) (rest : Rest) (some : rest.at < rest.end) (held : Held before rest) (other : NotAsSaid before rest) (now : Rest) (after : List ℕ) (t : ToMarkBy before rest now after) where
  abbrev S : List ℕ
  S = rest_in after now

  not_empty : now.at < now.end
  not_empty =
      omega (
        arith,
        length-unread before rest.at rest.end held.1,
        length-unread after now.at now.end t.read.held.1,
        ap length t.follows,
        length-append (rest_in before rest) t.more,
      )

  long : length S ≡ now.end - now.at
  long = length-unread after now.at now.end t.read.held.1

  size_is : (beyond : List ℕ) → MayFollow now beyond → size_of (S ++ beyond) ≡ to_mark (S ++ beyond)
  size_is beyond may =
      let same : S ++ beyond ≡ rest_in before rest ++ (t.more ++ beyond) = ap (λ s. s ++ beyond) t.follows ∙ append_assoc (rest_in before rest) t.more beyond in
      size_marked (S ++ beyond) (ap as_said same ∙ other (t.more ++ beyond) (follow_on before rest t.more now after t.read beyond may))

  -- these bytes come next, where they are as many as there are up to the mark
  come : (beyond bytes left : List ℕ) → MayFollow now beyond → S ++ beyond ≡ bytes ++ left → 1 ≤ length bytes → length bytes ≡ to_mark (S ++ beyond)
      → coming_in ((rest_in before rest ++ t.more) ++ beyond) ≡ comes bytes left
  come beyond bytes left may e l k =
      ap (λ s. coming_in (s ++ beyond)) (inv t.follows) ∙ ap coming_in e ∙ coming_is bytes left l (k ∙ inv (size_is beyond may) ∙ ap size_of e)

  module _ (mark : ℕ) (m : MarkBy S now.at now.end mark) where
    -- LAW: the mark is there
    pub cut_marked : mark < now.end → ComesBy coming_in before rest (Whole now.at (record { at = mark + 1; end = now.end; over = now.over })) after
    cut_marked l =
        let bytes = unread after now.at (mark + 1) in
        let left = unread after (mark + 1) now.end in
        let within = t.read.held.1 in (
          omega (arith, m.rising),
          record {
            more = t.more;
            read = use_to before rest t.more now after t.read (mark + 1) (omega arith);
            next = λ beyond may. (
              bytes,
              refl,
              come beyond bytes (left ++ beyond) may
                  (ap (λ s. s ++ beyond) (marked_parts after now.at now.end mark m within l) ∙ append_assoc bytes left beyond)
                  (omega (arith, m.rising, length-unread after now.at (mark + 1) (omega arith)))
                  (marked_length after now.at now.end mark m within l beyond),
            );
          },
        )

    module _ (none : mark ≡ now.end) where
      -- LAW: the input is over
      pub cut_ended : now.over ≡ true → ComesBy coming_in before rest (Whole now.at (used_up now)) after
      cut_ended over = (
        t.read.held.0,
        record {
          more = t.more;
          read = use_to before rest t.more now after t.read now.end (omega arith);
          next = λ beyond may.
              let nothing : beyond ≡ [] = may over in
              let left : unread after now.end now.end ++ beyond ≡ beyond = ap (λ s. s ++ beyond) (unread-none after now.end) in (
                S,
                refl,
                come beyond S (unread after now.end now.end ++ beyond) may (ap (λ s. S ++ s) (inv left)) (omega (arith, long, not_empty))
                    (omega (arith, m.unmarked none beyond, mark_most beyond, ap length nothing)),
              );
        },
      )

      -- LAW: the record is too long, and the rest of it is passed over
      pub cut_passed : now.over ≡ false → (left : Rest) (last : List ℕ) → PassedBy behind_mark after (used_up now) (Some left) last → ComesBy coming_in before rest (TooLong left) last
      cut_passed goes_on left last p = record {
        more = t.more ++ p.more;
        read = read_on before rest t.more (used_up now) after (use_to before rest t.more now after t.read now.end (omega arith)) p.more left last p.read;
        next = λ beyond may.
            let follows = p.more ++ beyond in
            let first = take (to_mark follows) follows in
            let behind : behind_mark follows ≡ rest_in last left ++ beyond = ap (λ s. behind_mark ((s ++ p.more) ++ beyond)) (inv (unread-none after now.end)) ∙ p.leaves beyond may in
            let whole : S ++ follows ≡ (S ++ first) ++ (rest_in last left ++ beyond) =
            ap (λ s. S ++ s) (inv (take-append-drop (to_mark follows) follows)) ∙ inv (append_assoc S first (behind_mark follows)) ∙ ap (λ s. (S ++ first) ++ s) behind in
            let size : length (S ++ first) ≡ length S + to_mark follows = length-append S first ∙ ap (λ n. length S + n) (length-take-le (to_mark follows) follows (mark_most follows)) in (
              S ++ first,
              omega (arith, size, long, t.many goes_on (m.unmarked none)),
              ap (λ s. coming_in (s ++ beyond)) (inv (append_assoc (rest_in before rest) t.more p.more))
                  ∙ ap coming_in (append_assoc (rest_in before rest ++ t.more) p.more beyond)
                  ∙ come follows (S ++ first) (rest_in last left ++ beyond) (follow_on after (used_up now) p.more left last p.read beyond may) whole
                  (omega (arith, size, long, not_empty)) (size ∙ inv (m.unmarked none follows)),
            );
      }

      pub cut_endless : (last : List ℕ) → PassedBy behind_mark after (used_up now) None last → ComesBy coming_in before rest Endless last
      cut_endless last p = (
        t.more ++ p.0,
        follow_on before rest t.more now after t.read p.0 p.1,
        omega (
          arith,
          p.2,
          length-append (rest_in after (used_up now)) p.0,
          ap length (unread-none after now.end),
          length-append (rest_in before rest) (t.more ++ p.0),
          length-append t.more p.0,
        ),
      )
