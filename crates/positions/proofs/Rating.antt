-- The lowest and the highest degree at a position, with what the positions before it gave: all shared symbols are gone through, or so many that
-- the rest can change neither, or their degrees are laid out side by side; and where one symbol stands alone, its near set tells them.
use mathlib.Core.Path.{◌≡◌, refl, sym as inv, ap, ◌∙◌}
use mathlib.Core.List.{List}
use mathlib.Core.Bool.{Bool, true, false, ◌&&◌, cond}
use Prim.Native.Nat.{ℕ, zero, suc, ◌+◌, ◌≤◌, ◌<◌, min, max}
use native.Mathlib.Decide.{dec_le, ℕ_discrete}
use native.Mathlib.Omega.{arith}
use borrow.Author.Tests.{lt-ltb, le-leb, lt-leb, leb-true, eq-eqb, ne_eqb}
use lib.Dec.{ltb, leb, eqb}
use Rattle.theory.specs.Table.{Table, Lawful}
use Rattle.theory.specs.Least.{lowest, highest}
use Rattle.theory.proofs.Lemmas.{most, fewest, lowest_le, lowest_top, le_lowest, le_highest, and_right, and_true, skipped}
use Rattle.meaning.specs.Buffers.{member}
use Rattle.sets.specs.Words.{NoneBetween}
use Rattle.near.specs.Near.{is_near}
use Rattle.wide.specs.Shared.{shared_by_lem}
use Rattle.refusal.specs.declared.Degrees.{Degrees}
use Rattle.positions.specs.Position.{in_shared, lowest_shared, highest_shared, floor_of, SharedIs, Rated}
use Rattle.positions.specs.Looked.{RatedBy, RatedAt}
use Rattle.positions.proofs.Members.{lowest-same, highest-same, lowest_fewer, highest_fewer, fewest_next, most_next}
use Rattle.positions.proofs.Sharing.{cut_floor, floor_shared}

-- no degree is above the top
highest_top : (n : ℕ) (f : ℕ → ℕ) → ((k : ℕ) → f k ≤ 1000) → highest n f ≤ 1000
highest_top zero f top = omega arith
highest_top (suc n) f top = omega (arith, top n, highest_top n f top)

module _ (T : Table) (faced : List ℕ) where
  abbrev shares : ℕ → ℕ
  shares = shared_by_lem T faced

  shared_top : (s : ℕ) → shares s ≤ 1000
  shared_top s = lowest_top T.size (λ h. cond (member faced h) (T.deg s h) 1000)

  -- ---- one shared symbol after the other

  -- of the words' symbols those below m are gone through, with what the positions before gave as the lowest
  pub record RatedTo (set : List ℕ) (before m low best : ℕ) : Type 0 where
    pub within : m ≤ T.size
    pub lows : low ≡ min before (fewest (member set) shares m)
    pub bests : best ≡ most (member set) shares m

  module _ {set : List ℕ} {before m low best : ℕ} (r : RatedTo set before m low best) where
    -- LAW: with k, the next one
    pub rated_next : {k d low' best' : ℕ} → m ≤ k → k < T.size → member set k ≡ true → NoneBetween set m k → d ≡ shares k → low' ≡ min low d → best' ≡ max best d
        → RatedTo set before (k + 1) low' best'
    rated_next {k} up l is none e lower higher =
        record {
          within = omega arith;
          lows = omega (arith, r.lows, fewest_next (member set) shares m k up is none);
          bests = omega (arith, r.bests, most_next (member set) shares m k up is none);
        }

    module _ (L : Lawful T) {cut : ℕ} (top : cut ≤ 1000) {floor : ℕ} (is : SharedIs T cut faced set floor) (high : ℕ) where
      lowest_is : fewest (member set) shares T.size ≡ lowest_shared T cut faced
      lowest_is = lowest-same T.size _ _ (λ s l. rw (is.set_is s))

      highest_is : most (member set) shares T.size ≡ highest_shared T cut faced
      highest_is = highest-same T.size _ _ (λ s l. rw (is.set_is s))

      -- LAW: all are gone through
      pub rated_all : NoneBetween set m T.size → Rated T cut faced before high low (min high best)
      rated_all none =
          let same = skipped (member set) shares m T.size r.within none in
          record {
            lowest_is = omega (arith, r.lows, same.0, lowest_is);
            highest_is = omega (arith, r.bests, same.1, highest_is);
          }

      -- LAW: the rest can change neither
      pub rated_early : high ≤ best → low ≤ floor → Rated T cut faced before high low high
      rated_early reached bottom =
          let lower = lowest_fewer (λ s. cond (member set s) (shares s) 1000) m T.size r.within in
          let higher = highest_fewer (λ s. cond (member set s) (shares s) 0) m T.size r.within in
          record {
            lowest_is = omega (arith, r.lows, lower, lowest_is, floor_low, is.floor_is);
            highest_is = omega (arith, r.bests, higher, highest_is);
          }
        where
          floor_low : floor_of T cut faced ≤ lowest_shared T cut faced
          floor_low = le_lowest T.size _ (floor_of T cut faced) (lowest_top T.size _) (λ s l. at s l (in_shared T cut faced s) refl)
            where
              at : (s : ℕ) → s < T.size → (b : Bool) → in_shared T cut faced s ≡ b → floor_of T cut faced ≤ cond b (shares s) 1000
              at s l true e = floor_shared L top faced s l (leb-true cut (shares s) (and_right (ltb s T.size) (leb cut (shares s)) e))
              at s l false e = lowest_top T.size _

  -- ---- side by side

  -- LAW: the shared symbols are those that share no less than the floor
  module _ (L : Lawful T) {cut : ℕ} (top : cut ≤ 1000) where
    reach_floor : (s : ℕ) → s < T.size → leb (floor_of T cut faced) (shares s) ≡ in_shared T cut faced s
    reach_floor s l = go (dec_le cut (shares s))
      where
        go : Dec (cut ≤ shares s) → leb (floor_of T cut faced) (shares s) ≡ (ltb s T.size && leb cut (shares s))
        go (yes r) = rw (lt-ltb s T.size l, le-leb cut (shares s) r) (le-leb (floor_of T cut faced) (shares s) (floor_shared L top faced s l r))
        go (no r) = rw (lt-ltb s T.size l, lt-leb cut (shares s) (omega arith)) (lt-leb (floor_of T cut faced) (shares s) (omega (arith, cut_floor L top faced)))

    pub rated_wide : {floor before high low best low' high' : ℕ} → floor ≡ floor_of T cut faced
        → low ≡ lowest T.size (λ s. cond (leb floor (shares s)) (shares s) 1000) → best ≡ highest T.size (λ s. cond (leb floor (shares s)) (shares s) 0)
        → low' ≡ min before low → high' ≡ min high best → Rated T cut faced before high low' high'
    rated_wide {floor} {before} {high} is lows bests l h =
        record {
          lowest_is = l ∙ ap (min before) (lows ∙ lowest-same T.size _ _ (λ s m. rw (is, reach_floor s m)));
          highest_is = h ∙ ap (min high) (bests ∙ highest-same T.size _ _ (λ s m. rw (is, reach_floor s m)));
        }

  -- ---- one symbol alone

  module _ (L : Lawful T) {cut : ℕ} (top : cut ≤ 1000) (h : ℕ) (inside : h < T.size) (only : (k : ℕ) → member faced k ≡ eqb k h) where
    alone : (f : ℕ → ℕ) → f h ≤ 1000 → fewest (member faced) f T.size ≡ f h
    alone f most = omega (arith, below, above)
      where
        g : ℕ → ℕ
        g k = cond (member faced k) (f k) 1000

        below : fewest (member faced) f T.size ≤ f h
        below = rw (only h ∙ eq-eqb h h refl) at (lowest_le T.size g h inside)

        above : f h ≤ fewest (member faced) f T.size
        above = le_lowest T.size g (f h) most (λ k l. at k (ℕ_discrete k h))
          where
            at : (k : ℕ) → Dec (k ≡ h) → f h ≤ g k
            at k (yes e) = rw (only k ∙ eq-eqb k h e, e) (omega arith)
            at k (no e) = rw (only k ∙ ne_eqb k h e) most

    pub rated_alone : {set : List ℕ} {floor before high : ℕ} → SharedIs T cut faced set floor → high ≤ 1000 → Rated T cut faced before high (min before floor) high
    rated_alone {floor = floor} {before} {high} is small =
        record { lowest_is = ap (min before) (is.floor_is ∙ lowest_is); highest_is = omega (arith, most, tops) }
      where
        with_h : (s : ℕ) → shares s ≡ T.deg s h
        with_h s = alone (T.deg s) (L.top s h)

        lowest_is : floor_of T cut faced ≡ lowest_shared T cut faced
        lowest_is =
            alone (λ h. lowest T.size (λ s. cond (is_near T cut h s) (T.deg s h) 1000)) (lowest_top T.size _)
            ∙ lowest-same T.size _ _ (λ s l. ap (λ (d : ℕ). cond (ltb s T.size && leb cut d) d 1000) (inv (with_h s)))

        itself : shares h ≡ 1000
        itself = with_h h ∙ L.itself h inside

        in_set_lem : in_shared T cut faced h ≡ true
        in_set_lem = and_true _ _ (lt-ltb h T.size inside) (le-leb cut (shares h) (omega (arith, itself)))

        f : ℕ → ℕ
        f s = cond (in_shared T cut faced s) (shares s) 0

        most : 1000 ≤ highest_shared T cut faced
        most = let here : f h ≡ 1000 = rw in_set_lem itself in omega (arith, le_highest T.size f h inside)

        tops : highest_shared T cut faced ≤ 1000
        tops = highest_top T.size f (λ s. at s (in_shared T cut faced s))
          where
            at : (s : ℕ) (b : Bool) → cond b (shares s) 0 ≤ 1000
            at s true = shared_top s
            at s false = omega arith

-- ---- in the words of the functions

module _ {T : Table} {faced set : List ℕ} {floor : ℕ} {before : Degrees} (low_top : before.lowest ≤ 1000) (high_top : before.highest ≤ 1000) where
  -- LAW: one symbol stands there alone
  pub at_alone : {h low : ℕ} → h < T.size → ((k : ℕ) → member faced k ≡ eqb k h) → low ≡ min before.lowest floor
      → RatedAt T faced set floor before (record { lowest = low; highest = before.highest })
  at_alone {h} inside only is =
      record {
        lowest_falls = omega arith;
        highest_falls = omega arith;
        rated = λ cut L top shared. rw is (rated_alone T faced L top h inside only shared high_top);
      }

  -- LAW: degrees are laid out side by side
  pub at_many : {r : Degrees} → RatedBy T faced floor before r → RatedAt T faced set floor before r
  at_many by =
      record {
        lowest_falls = omega (arith, by.lowest_is);
        highest_falls = omega (arith, by.highest_is);
        rated = λ cut L top shared. rated_wide T faced L top shared.floor_is refl refl by.lowest_is by.highest_is;
      }
