-- While a mark is sought, it is only sought in what was read last: the bytes before have none.
use mathlib.Core.Path.{◌≡◌, refl, sym as inv, ap, subst, ◌∙◌}
use mathlib.Core.List.{List, [], ◌++◌, append_assoc, append-nil}
use mathlib.Core.Bool.{Bool, true, false, cond}
use Prim.Native.Nat.{ℕ, ◌+◌, ◌-◌, ◌≤◌, ◌<◌}
use native.Mathlib.Omega.{arith}
use lib.ListN.{length, drop}
use lib.Seq.{drop_at}
use Rattle.std.proofs.Common.{Option, Some, None, unwrap_or, is_some}
use Rattle.std.specs.Option.{IfSome}
use Rattle.input.specs.Unreads.{unread}
use Rattle.input.proofs.Unused.{length-unread}
use Rattle.marc_input.specs.declared.rest.Rest.{Rest}
use Rattle.marc_input.specs.Rests.{Held, rest_in, MoreBy, FilledBy}
use Rattle.marc_input.specs.Passing.{NoMark, MarkBy}
use Rattle.marc_input.specs.Cuts.{most_bytes, ToMarkBy}
use Rattle.marc_input.proofs.Following.{nothing_more, read_on, filled_more}
use Rattle.marc_input.proofs.Marks.{unread_parts, no_mark_both, no_mark_rest, mark_there}

pub record Seeking (before : List ℕ) (rest : Rest) (buffer : List ℕ) (now : Rest) (mark : ℕ) : Type 0 where
  pub more : List ℕ
  pub read : MoreBy before rest more now buffer
  pub follows : rest_in buffer now ≡ rest_in before rest ++ more
  pub inside : mark ≤ now.end
  pub unseen : mark ≡ now.end → NoMark (rest_in buffer now)
  pub seen : mark < now.end → NoMark (rest_in buffer now) → ⊥

-- LAW: where no mark was found, and where one was
pub none_found : (mark : Option ℕ) (end : ℕ) → is_some mark ≡ false → unwrap_or mark end ≡ end
none_found None end e = refl
none_found (Some m) end e = cc

pub some_found : (mark : Option ℕ) (end : ℕ) → is_some mark ≡ true → IfSome mark (λ m. m < end) → unwrap_or mark end ≡ end → ⊥
some_found None end e l q = cc
some_found (Some m) end e l q = omega arith

-- how often more can be read: not at all once the input is over
abbrev pub reads_left : Rest → ℕ
reads_left now = cond now.over 0 (most_bytes + 2 - (now.end - now.at))

-- LAW: less often, once so many bytes were wanted and one more
pub fewer_left : (buffer : List ℕ) (now next : Rest) (after : List ℕ) → now.over ≡ false → now.end - now.at ≤ most_bytes
    → FilledBy buffer now (now.end - now.at + 1) next after → reads_left next < reads_left now
fewer_left buffer now next after goes_on l f = rw goes_on (by_over next.over refl)
  where
    by_over : (over : Bool) → next.over ≡ over → cond over 0 (most_bytes + 2 - (next.end - next.at)) < most_bytes + 2 - (now.end - now.at)
    by_over true e = omega arith
    by_over false e = omega (arith, f.enough e)

module _ (before : List ℕ) (rest : Rest) where
  pub seeking_first : Held before rest → (mark : ℕ) → MarkBy (rest_in before rest) rest.at rest.end mark → Seeking before rest before rest mark
  seeking_first held mark m = record {
    more = [];
    read = nothing_more before rest held;
    follows = inv (append-nil _);
    inside = m.inside;
    unseen = m.unmarked;
    seen = mark_there (rest_in before rest) rest.at rest.end mark m (length-unread before rest.at rest.end held.1);
  }

  module _ (buffer : List ℕ) (now : Rest) (mark : ℕ) (p : Seeking before rest buffer now mark) where
    -- LAW: it was not there, and more was read
    module _ (none : mark ≡ now.end) (wanted : ℕ) (next : Rest) (after : List ℕ) (f : FilledBy buffer now wanted next after) where
      abbrev count : ℕ
      count = now.end - now.at

      abbrev fresh : List ℕ
      fresh = unread after (next.at + count) next.end

      enough : next.at + count ≤ next.end
      enough = omega (arith, filled_more buffer now wanted next after f p.read.held, f.read.held.0)

      fresh_is : fresh ≡ f.more
      fresh_is =
          let old : length (unread after next.at (next.at + count)) ≡ count = length-unread after next.at (next.at + count) (omega (arith, enough, f.read.held.1)) ∙ omega arith in
          inv (drop_at (unread after next.at (next.at + count)) fresh count old)
          ∙ ap (drop count) (inv (unread_parts after next.at (next.at + count) next.end (omega arith) enough) ∙ f.follows)
          ∙ drop_at (rest_in buffer now) f.more count (length-unread buffer now.at now.end p.read.held.1)

      pub seeking_on : (place : ℕ) → MarkBy fresh (next.at + count) next.end place → Seeking before rest after next place
      seeking_on place m = record {
        more = p.more ++ f.more;
        read = read_on before rest p.more now buffer p.read f.more next after f.read;
        follows = f.follows ∙ ap (λ s. s ++ f.more) p.follows ∙ append_assoc (rest_in before rest) p.more f.more;
        inside = m.inside;
        unseen = λ e. subst NoMark (inv f.follows) (no_mark_both (rest_in buffer now) f.more (p.unseen none) (subst NoMark fresh_is (m.unmarked e)));
        seen = λ l n.
            mark_there fresh (next.at + count) next.end place m (length-unread after (next.at + count) next.end f.read.held.1) l
            (subst NoMark (inv fresh_is) (no_mark_rest (rest_in buffer now) f.more (p.unseen none) (subst NoMark f.follows n)));
      }

    sought : (now.over ≡ false → NoMark (rest_in buffer now) → most_bytes < now.end - now.at) → ToMarkBy before rest now buffer
    sought h = record { more = p.more; read = p.read; follows = p.follows; many = h }

    -- LAW: it was there, or the input is over, or the bytes are more than a record may have
    pub sought_there : (mark ≡ now.end → ⊥) → ToMarkBy before rest now buffer
    sought_there n = sought (λ _ none. absurd (p.seen (omega (arith, p.inside)) none))

    pub sought_over : now.over ≡ true → ToMarkBy before rest now buffer
    sought_over o = sought (λ goes_on none. let z : ◌≡◌ {A = ℕ} 0 1 = cc in absurd (omega arith))

    pub sought_many : most_bytes < now.end - now.at → ToMarkBy before rest now buffer
    sought_many l = sought (λ _ none. l)
