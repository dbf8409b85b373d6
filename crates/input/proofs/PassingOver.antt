-- While bytes are passed over, those that are gone and those in the buffer are together all that was there and was read since; so many as
-- are gone and are left are the count.
use mathlib.Core.Path.{◌≡◌, sym, ap, ◌∙◌}
use mathlib.Core.List.{List, [], ◌++◌, append_assoc, append-nil}
use Prim.Native.Nat.{ℕ, ◌+◌, ◌-◌, ◌≤◌, ◌<◌}
use native.Mathlib.Omega.{arith}
use lib.ListN.{length, take, drop, length-append}
use Rattle.input.specs.declared.unread.Unread.{Unread}
use Rattle.input.specs.declared.batch.Next.TheVariants.{TooLong, CutOff}
use Rattle.input.specs.Unreads.{unread, ReadBy}
use Rattle.input.specs.Coming.{Follows, over_long, short}
use Rattle.input.specs.Found.{FoundBy}
use Rattle.input.proofs.Unused.{length-unread, unread_split}

pub record PassingOver (before : List ℕ) (at end count : ℕ) (buffer : List ℕ) (passed : Unread) (left : ℕ) : Type 0 where
  pub within : passed.end ≤ length before
  pub gone : List ℕ
  pub more : List ℕ
  pub all : unread before at end ++ more ≡ gone ++ unread buffer passed.at passed.end
  pub many : length gone + left ≡ count

pub passing_first : (before : List ℕ) (first : Unread) (count : ℕ) → first.end ≤ length before → PassingOver before first.at first.end count before first count
passing_first before first count within = record { within = within; gone = []; more = []; all = append-nil _; many = omega arith }

module _ (before : List ℕ) (at end count : ℕ) where
  module _ (buffer : List ℕ) (same : length buffer ≡ length before) (passed : Unread) (left : ℕ) (p : PassingOver before at end count buffer passed left) where
    -- so many bytes are in the buffer
    here : length (p.gone ++ unread buffer passed.at passed.end) ≡ length p.gone + (passed.end - passed.at)
    here = length-append p.gone (unread buffer passed.at passed.end) ∙ ap (λ n. length p.gone + n) (length-unread buffer passed.at passed.end (omega (arith, p.within)))

    -- LAW: all of them are passed over, and more are read
    pub passing_on : passed.end - passed.at < left → (none : Unread) → none.end ≡ 0 → (next : Unread) (after : List ℕ) → ReadBy buffer none.at none.end 1 next after
        → PassingOver before at end count after next (left - (passed.end - passed.at))
    passing_on l none e next after r = record {
      within = omega (arith, r.within);
      gone = p.gone ++ unread buffer passed.at passed.end;
      more = p.more ++ r.more;
      all =
          sym (append_assoc (unread before at end) p.more r.more)
          ∙ ap (λ s. s ++ r.more) p.all
          ∙ ap (λ s. p.gone ++ unread buffer passed.at passed.end ++ s) (sym (r.follows ∙ ap (λ n. take n (drop none.at buffer) ++ r.more) nothing));
      many = omega (arith, p.many, here);
    }
      where
        nothing : none.end - none.at ≡ 0
        nothing = omega arith

    -- LAW: none is there, and some are left
    pub passing_cut : passed.end - passed.at ≡ 0 → 0 < left → FoundBy (Follows count) before at end CutOff buffer
    passing_cut e l = record { lies = tt; more = p.more; comes = short (omega (arith, ap length p.all, here, p.many)) }

    -- LAW: all that is left is there
    pub passing_last : passed.at + left ≤ passed.end → 65535 < count → (rest : Unread) → rest.at ≡ passed.at + left → rest.end ≡ passed.end
        → FoundBy (Follows count) before at end (TooLong rest) buffer
    passing_last inside long rest a e =
        let part = unread buffer passed.at (passed.at + left) in
        record {
          lies = omega (arith, p.within);
          more = p.more;
          comes = over_long (p.gone ++ part)
              (p.all
              ∙ ap (λ s. p.gone ++ s) (unread_split buffer passed.at left passed.end inside ∙ (λ i. part ++ unread buffer (sym a i) (sym e i)))
              ∙ sym (append_assoc p.gone part (unread buffer rest.at rest.end)))
              (omega (arith, length-append p.gone part, length-unread buffer passed.at (passed.at + left) (omega (arith, p.within)), p.many))
              long;
        }
