-- A near set, gathered pair by pair: after all pairs it holds the symbols that are near, as OnePass has it, and the lowest degree in it is
-- the lowest of its pairs', for two symbols have no degree but the one that is listed for them.
use mathlib.Core.Path.{◌≡◌, refl, sym as inv, ap, ◌∙◌, subst}
use mathlib.Core.Logic.{inl, inr}
use mathlib.Core.List.{List}
use mathlib.Core.Bool.{or-false, Bool, true, false, ◌&&◌, ◌||◌, cond, or_comm, false≢true}
use Prim.Native.Nat.{ℕ, ◌+◌, ◌-◌, ◌≤◌, ◌<◌, min, max}
use native.Mathlib.Decide.{ℕ_discrete}
use native.Mathlib.Numerals.{add-one}
use native.Mathlib.Omega.{arith}
use borrow.Author.Tests.{lt-ltb, ltb-true, eq-eqb}
use lib.Dec.{ltb, leb, eqb}
use Rattle.theory.specs.Least.{some, lowest}
use Rattle.theory.specs.Table.{Table}
use Rattle.theory.specs.Pairs.{Pair, pair, is_pair, SoundPair}
use Rattle.theory.proofs.Lemmas.{the_most, and_true, and_left, and_right, or_right, lowest_le, lowest_top, le_lowest}
use Rattle.meaning.specs.Limits.{set_room}
use Rattle.meaning.specs.File.{pair_count_lem, pair_at, arities_in, table_in}
use Rattle.meaning.specs.Refusals.{SoundFile}
use Rattle.meaning.specs.Tables.{pair_start, lower_at, higher_at, degree_at}
use Rattle.meaning.proofs.Bytes.{pair_in_lem}
use Rattle.meaning.proofs.Sound.{sound}
use Rattle.table.proofs.Reading.{sound_at}
use Rattle.near.specs.Near.{in_row, kept, is_near, NearSet, Alone, PairJoined}
use Rattle.near.specs.OnePass.{brings, walked}
use Rattle.near.proofs.OnePass.{pair_degree, apart, one_pass}

-- ---- pair by pair

module _ (file : List ℕ) (cut : ℕ) where
  -- pair i is of h, and reaches the cut
  abbrev touches : ℕ → ℕ → Bool
  touches h i = leb cut (degree_at file i) && (eqb h (lower_at file i) || eqb h (higher_at file i))

  -- what pair i brings for the lowest degree in the set of h
  abbrev brought : ℕ → ℕ → ℕ
  brought h i = cond (touches h i) (degree_at file i) 1000

  -- the set of h as the first n pairs make it
  pub record NearTo (n : ℕ) (near : List ℕ) (h : ℕ) : Type 0 where
    pub has : (k : ℕ) → k < set_room → in_row near h k ≡ (eqb k h || some n (brings file cut h k))
    pub gathered : 1 < kept near h
    pub within : kept near h ≤ 1002
    pub low : 1002 - kept near h ≡ lowest n (brought h)

  -- LAW: no pair yet
  pub near_none : (near : List ℕ) (h : ℕ) → Alone near h → NearTo 0 near h
  near_none near h a =
      record {
        has = λ k l. a.has k l ∙ inv (or-false (eqb k h));
        gathered = omega (arith, a.top);
        within = omega (arith, a.top);
        low = omega (arith, a.top);
      }

  -- LAW: one pair more
  pub near_next : (n lower higher degree : ℕ) (before after : List ℕ) → pair lower higher degree ≡ pair_at file (pair_start file n) → degree_at file n ≤ 1000
      → PairJoined cut lower higher degree before after → (h : ℕ) → NearTo n before h → NearTo (n + 1) after h
  near_next n lower higher degree before after is top joins h so_far =
      let more = subst Joins is joins in
      let last = grown (touches h n) (more.far h so_far.gathered) in
      record {
        has = λ k l.
            more.has h k so_far.gathered l
            ∙ rw (so_far.has k l, add-one n) (regroup (eqb k h) (some n (brings file cut h k)) (brings file cut h k n));
        gathered = last.0;
        within = last.1;
        low = rw (add-one n) last.2;
      }
    where
      Joins : Pair → Type 0
      Joins (pair l u d) = PairJoined cut l u d before after

      regroup : (a b c : Bool) → ((a || b) || c) ≡ (a || (c || b))
      regroup true b c = refl
      regroup false b c = or_comm b c

      grown : (b : Bool) → kept after h ≡ cond b (max (kept before h) (1002 - degree_at file n)) (kept before h)
          → (1 < kept after h) × (kept after h ≤ 1002) × (1002 - kept after h ≡ min (cond b (degree_at file n) 1000) (lowest n (brought h)))
      grown true e =
          (omega (arith, so_far.gathered), omega (arith, so_far.within), omega (arith, so_far.within, so_far.low))
      grown false e =
          (omega (arith, so_far.gathered), omega (arith, so_far.within), omega (arith, so_far.low, lowest_top n (brought h)))

  module _ (ok : SoundFile file) where
    -- LAW: a pair is of two symbols, and has a degree
    pub pair_symbols : (i : ℕ) → i < pair_count_lem file → (lower_at file i < (table_in file).size) × (higher_at file i < (table_in file).size) × (degree_at file i ≤ 1000)
    unfolding table_in
    pair_symbols i l =
        let s = subst (SoundPair (arities_in file)) (pair_in_lem file i l) (sound_at file ok i l) in
        (omega (arith, s.0, s.1), s.1, omega (arith, s.4))

  module _ (ok : SoundFile file) (positive : 0 < cut) where
    abbrev T : Table
    T = table_in file

    -- a pair of h brings the degree of a symbol near to h
    low_pair : (h i : ℕ) → i < pair_count_lem file → lowest T.size (λ k. cond (is_near T cut h k) (T.deg k h) 1000) ≤ brought h i
    low_pair h i l = go (touches h i) refl (eqb h (lower_at file i)) refl
      where
        g : ℕ → ℕ
        g k = cond (is_near T cut h k) (T.deg k h) 1000

        with_other : (k : ℕ) → k < T.size → is_pair (lower_at file i) (higher_at file i) h k ≡ true → leb cut (degree_at file i) ≡ true → lowest T.size g ≤ degree_at file i
        with_other k m e r =
            let is = pair_degree file ok i h k l e in
            let near : is_near T cut h k ≡ true = and_true (ltb k T.size) (leb cut (T.deg k h)) (lt-ltb k T.size m) (ap (leb cut) is ∙ r) in
            let here : g k ≡ degree_at file i = rw near is in
            omega (arith, lowest_le T.size g k m)

        first_way : eqb h (lower_at file i) ≡ true → is_pair (lower_at file i) (higher_at file i) h (higher_at file i) ≡ true
        first_way f = rw (f, eq-eqb (higher_at file i) (higher_at file i) refl)

        second_way : eqb h (higher_at file i) ≡ true → is_pair (lower_at file i) (higher_at file i) h (lower_at file i) ≡ true
        second_way f = rw (f, eq-eqb (lower_at file i) (lower_at file i) refl) (or_right (eqb h (lower_at file i) && eqb (lower_at file i) (higher_at file i)) true refl)

        go : (b : Bool) → touches h i ≡ b → (c : Bool) → eqb h (lower_at file i) ≡ c → lowest T.size g ≤ cond b (degree_at file i) 1000
        go false e c f = lowest_top T.size g
        go true e true f =
            with_other (higher_at file i) (pair_symbols ok i l).1 (first_way f) (and_left (leb cut (degree_at file i)) (eqb h (lower_at file i) || eqb h (higher_at file i)) e)
        go true e false f =
            let last = rw f at (and_right (leb cut (degree_at file i)) (eqb h (lower_at file i) || eqb h (higher_at file i)) e) in
            with_other (lower_at file i) (pair_symbols ok i l).0 (second_way last) (and_left (leb cut (degree_at file i)) (eqb h (lower_at file i) || eqb h (higher_at file i)) e)

    -- a symbol near to h has degree 1000 with it, or that of a pair of h
    low_symbol : (h k : ℕ) → lowest (pair_count_lem file) (brought h) ≤ cond (is_near T cut h k) (T.deg k h) 1000
    low_symbol h k = go (is_near T cut h k) refl (ℕ_discrete h k)
      where
        by_pair : (i : ℕ) → i < pair_count_lem file → brings file cut h k i ≡ true → lowest (pair_count_lem file) (brought h) ≤ T.deg k h
        by_pair i m e =
            let of_both = and_right (leb cut (degree_at file i)) (is_pair (lower_at file i) (higher_at file i) h k) e in
            let is = pair_degree file ok i h k m of_both in
            let reaches = and_left (leb cut (degree_at file i)) (is_pair (lower_at file i) (higher_at file i) h k) e in
            let touched : touches h i ≡ true = and_true (leb cut (degree_at file i)) (eqb h (lower_at file i) || eqb h (higher_at file i)) reaches (one_of (eqb h (lower_at file i)) (eqb k (higher_at file i)) (eqb h (higher_at file i)) (eqb k (lower_at file i)) of_both) in
            let here : brought h i ≡ degree_at file i = rw touched in
            omega (arith, lowest_le (pair_count_lem file) (brought h) i m)
          where
            one_of : (a b c d : Bool) → ((a && b) || (c && d)) ≡ true → (a || c) ≡ true
            one_of true b c d e = refl
            one_of false b true d e = refl
            one_of false b false d e = e

        different : (h ≡ k → ⊥) → leb cut (T.deg k h) ≡ true → (b : Bool) → some (pair_count_lem file) (brings file cut h k) ≡ b → lowest (pair_count_lem file) (brought h) ≤ T.deg k h
        different n r false e = absurd (apart file ok cut positive h k n e r)
        different n r true e =
            elim (the_most (brings file cut h k) (λ i. 0) (pair_count_lem file)) [
              | inl none ↦ absurd (false≢true (inv none.0 ∙ e))
              | inr one ↦ by_pair one.pick one.below one.passes
            ]

        go : (b : Bool) → is_near T cut h k ≡ b → Dec (h ≡ k) → lowest (pair_count_lem file) (brought h) ≤ cond b (T.deg k h) 1000
        go false e d = lowest_top (pair_count_lem file) (brought h)
        go true e (yes d) =
            let inside = ltb-true k T.size (and_left (ltb k T.size) (leb cut (T.deg k h)) e) in
            omega (arith, lowest_top (pair_count_lem file) (brought h), ap (T.deg k) d, (sound file ok).lawful.itself k inside)
        go true e (no d) = different d (and_right (ltb k T.size) (leb cut (T.deg k h)) e) _ refl

    -- LAW: all pairs
    pub near_all : cut ≤ 1000 → (near : List ℕ) (h : ℕ) → h < T.size → NearTo (pair_count_lem file) near h → NearSet T cut near h
    near_all top near h m all =
        let itself : (k : ℕ) → walked file cut (pair_count_lem file) h k ≡ (eqb k h || some (pair_count_lem file) (brings file cut h k)) = λ k. rw (lt-ltb h T.size m) in
        let g : ℕ → ℕ = λ k. cond (is_near T cut h k) (T.deg k h) 1000 in
        let least = le_lowest T.size g (lowest (pair_count_lem file) (brought h)) (lowest_top (pair_count_lem file) (brought h)) (λ k l. low_symbol h k) in
        let most = le_lowest (pair_count_lem file) (brought h) (lowest T.size g) (lowest_top T.size g) (low_pair h) in
        record {
          has = λ k l. all.has k l ∙ inv (itself k) ∙ (one_pass file ok cut positive top).as_asked h k;
          gathered = all.gathered;
          within = all.within;
          low = all.low ∙ omega arith;
        }
