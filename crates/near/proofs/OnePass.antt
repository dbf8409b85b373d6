-- The walk gathers what asking gives: the symbols of a pair have its degree, two different symbols that no pair is of have degree 0, which is
-- below every cut, and a symbol has 1000 with itself, which reaches every cut.
use mathlib.Core.Path.{◌≡◌, refl, sym as inv, ap, ap₂, ◌∙◌}
use mathlib.Core.Logic.{inl, inr}
use mathlib.Core.List.{List}
use mathlib.Core.Bool.{Bool, true, false, ◌&&◌, ◌||◌, and-false, false≢true}
use Prim.Native.Nat.{ℕ, ◌≤◌, ◌<◌}
use native.Mathlib.Decide.{dec_lt, ℕ_discrete}
use native.Mathlib.Omega.{arith}
use borrow.Author.Tests.{lt-ltb, le-ltb, le-leb, leb-true, eq-eqb, ne_eqb, eqb-true}
use lib.Dec.{ltb, leb, eqb}
use lib.ListN.{get_or}
use Rattle.theory.specs.Least.{some}
use Rattle.theory.specs.Table.{Table}
use Rattle.theory.specs.Pairs.{Pair, pair, is_pair}
use Rattle.theory.proofs.Lemmas.{some_of, the_most, and_true, and_left, and_right, or_right}
use Rattle.meaning.specs.File.{pair_count_lem, pairs_in, table_in}
use Rattle.meaning.specs.Refusals.{SoundFile}
use Rattle.meaning.specs.Tables.{lower_at, higher_at, degree_at}
use Rattle.meaning.proofs.Bytes.{pair_in_lem}
use Rattle.meaning.proofs.Sound.{sound}
use Rattle.meaning.proofs.Degrees.{degree_listed, degree_others}
use Rattle.near.specs.Near.{is_near}
use Rattle.near.specs.OnePass.{brings, walked, OnePass}

module _ (file : List ℕ) (ok : SoundFile file) where
  abbrev T : Table
  T = table_in file

  -- LAW: the symbols of a pair have its degree, and either order serves
  pub pair_degree : (i h k : ℕ) → i < pair_count_lem file → is_pair (lower_at file i) (higher_at file i) h k ≡ true → T.deg k h ≡ degree_at file i
  pair_degree i h k l e = go (eqb h (lower_at file i)) refl (eqb k (higher_at file i)) refl (eqb h (higher_at file i)) refl (eqb k (lower_at file i)) refl e
    where
      is : T.deg (lower_at file i) (higher_at file i) ≡ degree_at file i
      is = degree_listed file ok i (lower_at file i) (higher_at file i) (degree_at file i) l (pair_in_lem file i l)

      straight : eqb h (lower_at file i) ≡ true → eqb k (higher_at file i) ≡ true → T.deg k h ≡ degree_at file i
      straight a b = (sound file ok).lawful.either k h ∙ ap₂ T.deg (eqb-true _ _ a) (eqb-true _ _ b) ∙ is

      across : eqb h (higher_at file i) ≡ true → eqb k (lower_at file i) ≡ true → T.deg k h ≡ degree_at file i
      across a b = ap₂ T.deg (eqb-true _ _ b) (eqb-true _ _ a) ∙ is

      go : (a : Bool) → eqb h (lower_at file i) ≡ a → (b : Bool) → eqb k (higher_at file i) ≡ b → (c : Bool) → eqb h (higher_at file i) ≡ c
          → (d : Bool) → eqb k (lower_at file i) ≡ d → ((a && b) || (c && d)) ≡ true → T.deg k h ≡ degree_at file i
      go true p true q c r d s t = straight p q
      go true p false q true r true s t = across r s
      go true p false q true r false s t = absurd (false≢true t)
      go true p false q false r d s t = absurd (false≢true t)
      go false p b q true r true s t = across r s
      go false p b q true r false s t = absurd (false≢true t)
      go false p b q false r d s t = absurd (false≢true t)

  module _ (cut : ℕ) (positive : 0 < cut) where
    -- LAW: where no pair brings two different symbols together, their degree does not reach the cut
    pub apart : (h k : ℕ) → (h ≡ k → ⊥) → some (pair_count_lem file) (brings file cut h k) ≡ false → leb cut (T.deg k h) ≡ true → ⊥
    apart h k n none reached =
        let zero_degree = (sound file ok).lawful.either k h ∙ degree_others file ok h k n other in
        omega (arith, leb-true cut (T.deg k h) reached)
      where
        of_pair : Pair → Bool
        of_pair (pair l u d) = is_pair l u h k

        no_pair : (i : ℕ) → i < pair_count_lem file → (b : Bool) → is_pair (lower_at file i) (higher_at file i) h k ≡ b → is_pair (lower_at file i) (higher_at file i) h k ≡ false
        no_pair i l false e = e
        no_pair i l true e =
            let brought : brings file cut h k i ≡ true = and_true _ _ (rw (pair_degree i h k l e) at reached) e in
            absurd (false≢true (inv none ∙ some_of (pair_count_lem file) (brings file cut h k) i l brought))

        other : (i l u d : ℕ) → i < pair_count_lem file → get_or (pairs_in file) i (pair 0 0 0) ≡ pair l u d → is_pair l u h k ≡ false
        other i l u d m e = ap of_pair (inv e ∙ pair_in_lem file i m) ∙ no_pair i m _ refl

    -- one of the pairs brings k, or none does: then it is h, or far from it
    asked : cut ≤ 1000 → (h k : ℕ) → walked file cut (pair_count_lem file) h k ≡ is_near T cut h k
    asked top h k = go (some (pair_count_lem file) (brings file cut h k)) refl (ℕ_discrete h k) (dec_lt k T.size)
      where
        Told : Bool → Type 0
        Told brought = ((ltb h T.size && eqb k h) || brought) ≡ (ltb k T.size && leb cut (T.deg k h))

        by_pair : (i : ℕ) → i < pair_count_lem file → brings file cut h k i ≡ true → Told true
        by_pair i m e =
            let reaches = leb-true cut (degree_at file i) (and_left (leb cut (degree_at file i)) (is_pair (lower_at file i) (higher_at file i) h k) e) in
            let is = pair_degree i h k m (and_right (leb cut (degree_at file i)) (is_pair (lower_at file i) (higher_at file i) h k) e) in
            let inside = ((sound file ok).lawful.inside k h (omega arith)).0 in
            rw (lt-ltb k T.size inside, le-leb cut (T.deg k h) (omega arith)) (or_right (ltb h T.size && eqb k h) true refl)

        by_none : some (pair_count_lem file) (brings file cut h k) ≡ false → (h ≡ k → ⊥) → (b : Bool) → leb cut (T.deg k h) ≡ b → (ltb k T.size && leb cut (T.deg k h)) ≡ false
        by_none e n true r = absurd (apart h k n e r)
        by_none e n false r = rw r (and-false (ltb k T.size))

        go : (b : Bool) → some (pair_count_lem file) (brings file cut h k) ≡ b → Dec (h ≡ k) → Dec (k < T.size) → Told b
        go true e d u =
            elim (the_most (brings file cut h k) (λ i. 0) (pair_count_lem file)) [
              | inl none ↦ absurd (false≢true (inv none.0 ∙ e))
              | inr one ↦ by_pair one.pick one.below one.passes
            ]
        go false e (yes d) (yes u) =
            let degree = ap (T.deg k) d ∙ (sound file ok).lawful.itself k u in
            rw (lt-ltb h T.size (omega arith), eq-eqb k h (inv d), lt-ltb k T.size u, le-leb cut (T.deg k h) (omega arith))
        go false e (yes d) (no u) = rw (le-ltb h T.size (omega arith), le-ltb k T.size (omega arith))
        go false e (no d) u = rw (ne_eqb k h (λ q. d (inv q)), and-false (ltb h T.size)) (inv (by_none e d _ refl))

    -- near to a number is only a symbol, and only if the number is one too
    outside : (h k : ℕ) → T.size ≤ h → is_near T cut h k ≡ false
    outside h k past = go (leb cut (T.deg k h)) refl
      where
        go : (b : Bool) → leb cut (T.deg k h) ≡ b → is_near T cut h k ≡ false
        go false e = rw e (and-false (ltb k T.size))
        go true e =
            let reached = leb-true cut (T.deg k h) e in
            let inside = ((sound file ok).lawful.inside k h (omega arith)).1 in
            absurd (omega (arith, past))

    -- LAW: at every cut
    pub one_pass : cut ≤ 1000 → OnePass file cut
    one_pass top = record { as_asked = asked top; none-outside = λ h k past. asked top h k ∙ outside h k past }
