-- Behind a length stands what it says, or the bytes end: all follows from how many bytes there are once they were read.
use mathlib.Core.Path.{◌≡◌, sym, ap, subst, ◌∙◌}
use mathlib.Core.List.{List, ◌++◌, append_assoc}
use Prim.Native.Nat.{ℕ, ◌+◌, ◌-◌, ◌≤◌, ◌<◌}
use native.Mathlib.Nat.{add-sub_cancel_left}
use native.Mathlib.Omega.{arith}
use lib.ListN.{length, take, drop}
use Rattle.input.specs.declared.unread.Unread.{Unread}
use Rattle.input.specs.declared.batch.Next.{Next}
use Rattle.input.specs.declared.batch.Next.TheVariants.{Question, CutOff, Ended}
use Rattle.input.specs.Unreads.{unread, ReadBy}
use Rattle.input.specs.Coming.{length_in, Follows, Comes, whole, short, nothing, no_length_lem, behind}
use Rattle.input.specs.Found.{Found, found_in, FoundBy}
use Rattle.input.proofs.Unused.{length-unread, unread_split}

module _ (before : List ℕ) (at end wanted : ℕ) (read : Unread) (after : List ℕ) (same : length after ≡ length before) (r : ReadBy before at end wanted read after) where
  -- so many bytes are there
  many : length (unread before at end ++ r.more) ≡ read.end - read.at
  many = ap length (sym r.follows) ∙ length-unread after read.at read.end (omega (arith, r.within))

  -- LAW: fewer than the question has
  pub too_few : read.end - read.at < wanted → FoundBy (Follows wanted) before at end CutOff after
  too_few l = record { lies = tt; more = r.more; comes = short (omega (arith, many)) }

  -- LAW: as many at least
  pub enough : read.at + wanted ≤ read.end → wanted ≤ 65535 → (rest : Unread) → rest.at ≡ read.at + wanted → rest.end ≡ read.end
      → FoundBy (Follows wanted) before at end (Question read.at rest) after
  enough inside small rest a e = record {
    lies = (omega arith, omega (arith, r.within));
    more = r.more;
    comes = whole
        (sym r.follows ∙ unread_split after read.at wanted read.end inside ∙ (λ i. unread after read.at (sym a i) ++ unread after (sym a i) (sym e i)))
        (ap (λ n. length (unread after read.at n)) a ∙ length-unread after read.at (read.at + wanted) (omega (arith, r.within)) ∙ add-sub_cancel_left read.at wanted)
        small;
  }

  -- LAW: none
  pub none_there : read.end - read.at ≡ 0 → FoundBy Comes before at end Ended after
  none_there e = record { lies = tt; more = r.more; comes = nothing (sym r.follows ∙ ap (λ n. take n (drop read.at after)) e) }

  -- LAW: not as many as a length has
  pub no_length : (read.end - read.at ≡ 0 → ⊥) → read.end - read.at < 4 → FoundBy Comes before at end CutOff after
  no_length some l = record { lies = tt; more = r.more; comes = no_length_lem (omega (arith, many)) (omega (arith, many)) }

  -- LAW: what follows the length comes next
  pub then_follows : read.at + 4 ≤ read.end → (count : ℕ) → count ≡ length_in (unread after read.at (read.at + 4))
      → (rest : Unread) → rest.at ≡ read.at + 4 → rest.end ≡ read.end → (next : Next) (last : List ℕ)
      → FoundBy (Follows count) after rest.at rest.end next last → FoundBy Comes before at end next last
  then_follows l count e rest a b next last f =
      let four = unread after read.at (read.at + 4) in
      let bytes = unread after rest.at rest.end in
      record {
        lies = subst (λ n. Found n next) same f.lies;
        more = r.more ++ f.more;
        comes = behind four (bytes ++ f.more)
            (sym (append_assoc (unread before at end) r.more f.more)
            ∙ ap (λ s. s ++ f.more) (sym r.follows ∙ unread_split after read.at 4 read.end l ∙ (λ i. four ++ unread after (sym a i) (sym b i)))
            ∙ append_assoc four bytes f.more)
            (length-unread after read.at (read.at + 4) (omega (arith, r.within)) ∙ add-sub_cancel_left read.at 4)
            (subst (λ n. Follows n (bytes ++ f.more) (found_in last next)) e f.comes);
      }
